use Rattle.std.proofs.Common.{◌≡◌, map, Some, sym, ap, ◌∙◌}
use Rattle.conf_sources.specs.Sources.{wild_names}
use Rattle.conf_sources.specs.declared.source.Source.TheVariants.{File}
use Rattle.conf_sources.proofs.listings.wild_files.Goals as goal

pub returns-in-Some-clause-value : goal.returns-in-Some-clause-value
returns-in-Some-clause-value g c = λ all e. c.in_ok-files_named.ensures {u = tt} ∙ ap (map File) (c.as_slice.ensures ∙ c.in-Some.ensures (wild_names all) (c.requires.described all e))

pub returns-clause-value : goal.returns-clause-value
returns-clause-value g c = λ all e. c.in_ok-found.ensures {u = tt} ∙ ap (map File) (c.as_slice-2.ensures ∙ (c.in_ok-names.ensures {u = tt}).value all e)

pub returns-clause-known : goal.returns-clause-known
returns-clause-known g c = record {
  below = λ all e. (c.in_ok-names.ensures {u = tt}).known.below all e;
  described = λ all e.
      c.in_ok-keep.ensures (wild_names all) ((c.in_ok-names.ensures {u = tt}).known.described all e) ((c.in_ok-names.ensures {u = tt}).value all (sym c.find_wild.ensures.same ∙ e));
}
