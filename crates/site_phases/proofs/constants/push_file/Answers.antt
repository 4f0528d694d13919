use Rattle.std.proofs.Common.{◌≡◌, ◌++◌, OnOk, sym, subst}
use Rattle.std.specs.Bool.{Decides}
use Rattle.std.specs.Option.{option_copied}
use Rattle.time_range.specs.Zone.{IsBadFile}
use Rattle.site_phases.specs.Constants.{AreBadBytes, bad_zone}
use Rattle.site_phases.proofs.ZoneLaws.{decided}
use Rattle.site_phases.proofs.constants.push_file.Goals as goal

pub returns : goal.returns
returns c = λ bad d.
    let here = subst (λ f. Decides bad (AreBadBytes (option_copied f))) c.in-Some.is d in
    subst (λ b. OnOk c.push_bad.result (c.push_bad.new.out ≡ c.args.out.now ++ bad_zone b))
    (decided (IsBadFile c.as_slice.result.now) bad c.in_ok-is_bad.is_bad (subst (λ xs. Decides bad (IsBadFile xs)) (sym c.as_slice.ensures) here) c.in_ok-is_bad.ensures.bad c.in_ok-is_bad.ensures.good)
    c.push_bad.ensures
