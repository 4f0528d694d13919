use Rattle.std.proofs.Common.{◌≡◌, ◌++◌, ◌∷◌, [], None, ap, ◌∙◌, map}
use Rattle.conf_sources.specs.Sources.{source_at}
use Rattle.conf_sources.specs.SourceKeys.{source_of}
use Rattle.conf_sources.proofs.KeyLaws.{key_added}
use Rattle.conf_sources.proofs.sources.Sources.add.Goals as goal

pub returns : goal.returns
returns c =
    let k = c.in_ok-key.key in
    let same : source_of k ≡ c.args.source.now = c.in_ok-key.ensures {u = tt} in
    let none : source_at (source_of k) (map source_of c.self.inside.keys.keys) ≡ None =
    ap (λ s. source_at s (map source_of c.self.inside.keys.keys)) same ∙ ap (source_at c.args.source.now) c.self.view_is ∙ c.requires in
    key_added k c.self.inside.keys.keys c.insert.new.self.keys none (c.in_ok-insert.ensures {u = tt}).keys
    ∙ ap (λ s. map source_of c.self.inside.keys.keys ++ s ∷ []) same
    ∙ ap (λ ss. ss ++ c.args.source.now ∷ []) c.self.view_is
