use Rattle.depend_graph.proofs.laws.a_sound_site_has_parents.Goals as goal

pub returns : goal.returns
returns c = λ s sound few. record {
  in_order = sound.in_order;
  children = λ k d l. (sound.depends k d l).child;
  parents = λ k d l. (sound.depends k d l).parent;
  few_checkables = few;
  few_depends = sound.few_depends;
}
