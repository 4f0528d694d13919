-- What templates, the items of a wave and the groups captured names cells and functions of the load's store.
use Rattle.std.proofs.Common.{◌≡◌, ℕ, List, [], ◌∷◌, map, sym, ap, ◌∙◌, subst}
use Rattle.dsl_value.specs.Contents.{Contents}
use Rattle.dsl_load.specs.Loads.{IsLoad, plain_parts}
use Rattle.dsl_load.specs.declared.load_parts.LoadParts.{LoadParts}
use Rattle.eval_meaning.specs.Views.{template_in}
use Rattle.eval_work.specs.Kept.{HasGlobals, ItemsNamed, PairsNamed}
use Rattle.eval_work.specs.Works.{plain_item, plain_template}
use Rattle.eval_work.specs.declared.item.Item.{Item}
use Rattle.eval_work.specs.declared.view.WorldView.{WorldView}
use Rattle.item_start.specs.Ready.{IsLawfulView}
use Rattle.commit_meaning.specs.Waves.{wave_groups, wave_items}
use Rattle.commit_meaning.specs.Worlds.{World}
use Rattle.commit_meaning.proofs.Captured.{groups_have, items_have}
use Rattle.wave_objects.specs.Captured.{AreNamed}
use Rattle.wave_objects.proofs.NamedRules.{rules_named}
use Rattle.commit_waves.proofs.TellLaws.{told}

pub items_named : (c : Contents) (is : List Item) → ItemsNamed c is → AreNamed c (map plain_item is)
items_named c [] h = tt
items_named c (i ∷ is) h = (h.0, items_named c is h.1)

pub named_items : (c : Contents) (is : List Item) → AreNamed c (map plain_item is) → ItemsNamed c is
named_items c [] h = tt
named_items c (i ∷ is) h = (h.0, named_items c is h.1)

module _ (p : LoadParts) (l : IsLoad p) (before : World) (w : ℕ) where
  pub wave_named : AreNamed p.store (wave_items (plain_parts p) before w)
  wave_named = items_have (PairsNamed p.store) (plain_parts p) before w (items_named p.store p.items.items l.items) (rules_named p.store p.rules.items l.rules)

  pub groups_named : AreNamed p.store before.groups → AreNamed p.store (wave_groups (plain_parts p) before w)
  groups_named gs = groups_have (PairsNamed p.store) (plain_parts p) before w (items_named p.store p.items.items l.items) (rules_named p.store p.rules.items l.rules) gs

-- a view with the store and the templates of a load is lawful
pub lawful : (p : LoadParts) → IsLoad p → (v : WorldView) → v.store.now ≡ p.store → v.templates.now ≡ p.templates → IsLawfulView v
lawful p l v es et = record {
  globals = subst HasGlobals (sym es) l.globals;
  told = record {
    templates = λ kind name t e.
        subst (λ c. PairsNamed c t.captured) (sym es)
        (told p.store p.templates l.templates kind name t (ap (λ ts. template_in kind name (map plain_template ts)) (sym et) ∙ e));
  };
}
