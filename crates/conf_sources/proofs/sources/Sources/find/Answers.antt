use Rattle.std.proofs.Common.{ap, ◌∙◌, map}
use Rattle.conf_sources.specs.Sources.{source_at}
use Rattle.conf_sources.specs.SourceKeys.{source_of}
use Rattle.conf_sources.proofs.KeyLaws.{key_place}
use Rattle.conf_sources.proofs.sources.Sources.find.Goals as goal

pub returns : goal.returns
returns c =
    c.get_index_of.ensures.index ∙ key_place c.in_ok-key.key c.self.inside.keys.keys
    ∙ ap (λ s. source_at s (map source_of c.self.inside.keys.keys)) (c.in_ok-key.ensures {u = tt})
    ∙ ap (source_at c.args.source.now) c.self.view_is
