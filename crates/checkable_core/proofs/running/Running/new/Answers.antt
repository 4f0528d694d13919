-- Nothing is kept of no entries.
use Rattle.std.proofs.Common.{◌≡◌, ◌<◌, List, [], length, get_or, Option, ap, ◌∙◌, arith, subst}
use Rattle.std.specs.Option.{IfSome}
use Rattle.check_state.specs.Stands.{StandsFor}
use Rattle.site_model.specs.PlainSite.{PlainCheck, check_view, site_view}
use Rattle.site_model.specs.declared.check_spec.CheckSpec.{CheckSpec}
use Rattle.checkable_core.specs.Contents.{check_at}
use Rattle.checkable_core.proofs.Listed.{check_is, length_map, spec_is}
use Rattle.checkable_core.proofs.running.Running.new.Goals as goal

pub returns : goal.returns
returns c =
    let s = site_view c.args.site.now in
    let k = c.args.checkable in
    let d = c.index-as_slice-checkable.result in
    let many = length_map check_view c.args.site.now.checkables in
    let within : k < length s.checkables = let below = c.requires.checkable in omega (arith, many, below) in
    let spec : check_view d ≡ check_at s k =
    ap check_view c.index-as_slice-checkable.is ∙ ap (λ (cs : List CheckSpec). check_view (get_or cs k d)) c.as_slice.ensures ∙ spec_is c.args.site.now.checkables k d c.requires.checkable in
    let zero = c.new-3.ensures.latest in
    record {
      within = within;
      keeps = record {
        status = subst (λ (x : PlainCheck). StandsFor c.new-2.result x []) spec c.new-2.ensures.stands;
        last = subst (λ (o : Option _). IfSome o (λ m. m ≡ 0)) c.unwrap.ensures c.of.ensures.value;
        book = c.new-3.ensures.empty;
        latest = omega (arith, zero);
        sent = c.in_ok-sent.ensures (check_at s k) c.requires.once (check_is s.checkables k within);
      };
    }
