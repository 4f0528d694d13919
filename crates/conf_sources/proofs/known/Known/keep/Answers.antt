use Rattle.std.proofs.Common.{◌≡◌, map, string_bytes, sym, ap, subst, ◌∙◌}
use Rattle.conf_sources.specs.Known.{answer_of, AreKnown}
use Rattle.conf_sources.proofs.KnownLaws.{kept}
use Rattle.conf_sources.proofs.known.Known.keep.Goals as goal

pub returns : goal.returns
returns c = λ what known right.
    let es = c.self.inside.lists.entries in
    let key : string_bytes c.in_ok-key.key ≡ c.args.name.now = (c.in_ok-key.ensures {u = tt}).ok in
    subst (λ l. AreKnown what (map answer_of l)) (sym (c.in_ok-insert.ensures {u = tt}).entries)
    (kept what es c.in_ok-key.key c.args.names (subst (λ l. AreKnown what l) (sym c.self.view_is) known) (right ∙ ap what (sym key)))
