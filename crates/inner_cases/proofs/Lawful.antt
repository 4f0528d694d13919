-- What the templates and the items of a load captured names cells and functions of its store.
use Rattle.std.proofs.Common.{◌≡◌, ℕ, List, [], ◌∷◌, ◌++◌, map, Bool, true, false, cond, Option, Some, None, ap, sym, ◌∙◌, subst, length}
use Rattle.std.specs.Prelude.{◌&&◌, IfSome}
use Rattle.std.specs.Option.{option_to_list}
use Rattle.std.proofs.lemmas.List.{append-nil}
use Rattle.std.specs.Str.{bytes_eq}
use Rattle.dsl_value.specs.Contents.{Contents}
use Rattle.dsl_load.specs.Loads.{IsLoad}
use Rattle.dsl_load.specs.declared.load_parts.LoadParts.{LoadParts}
use Rattle.eval_meaning.specs.Registered.{PlainTemplate}
use Rattle.eval_meaning.specs.Views.{template_in}
use Rattle.eval_work.specs.Kept.{HasGlobals, ItemsNamed, PairsNamed, RulesNamed, TemplatesNamed}
use Rattle.eval_work.specs.Works.{plain_template}
use Rattle.eval_work.specs.declared.item.Item.{Item}
use Rattle.eval_work.specs.declared.template.Template.{Template}
use Rattle.eval_work.specs.declared.view.WorldView.{WorldView}
use Rattle.item_start.specs.Ready.{IsLawfulView}

abbrev captured_or : Template → Option PlainTemplate → PlainTemplate
captured_or t None = plain_template t
captured_or t (Some x) = x

-- the template that is found is one of them
told : (c : Contents) (ts : List Template) → TemplatesNamed c ts → (kind name : List ℕ) (t : PlainTemplate) → template_in kind name (map plain_template ts) ≡ Some t → PairsNamed c t.captured
told c [] h kind name t e = absurd cc
told c (s ∷ ts) h kind name t e = by (told c ts h.1 kind name t) (bytes_eq kind s.kind && bytes_eq name s.name) e
  where
    by : (template_in kind name (map plain_template ts) ≡ Some t → PairsNamed c t.captured) → (b : Bool) → cond b (Some (plain_template s)) (template_in kind name (map plain_template ts)) ≡ Some t → PairsNamed c t.captured
    by rest true q = subst (λ (x : PlainTemplate). PairsNamed c x.captured) (ap (captured_or s) q) h.0
    by rest false q = rest q

-- a view with the store and the templates of a load is lawful
pub lawful : (p : LoadParts) → IsLoad p → (v : WorldView) → v.store.now ≡ p.store → v.templates.now ≡ p.templates → IsLawfulView v
lawful p l v es et = record {
  globals = subst HasGlobals (sym es) l.globals;
  told = record {
    templates = λ kind name t e.
        subst (λ c. PairsNamed c t.captured) (sym es)
        (told p.store p.templates l.templates kind name t (ap (λ ts. template_in kind name (map plain_template ts)) (sym et) ∙ e));
  };
}

-- the items in front of the last one, and the last one
parted_at : (c : Contents) (is : List Item) (i : Item) → ItemsNamed c (is ++ i ∷ []) → ItemsNamed c is × PairsNamed c i.captured.items
parted_at c [] i h = (tt, h.0)
parted_at c (j ∷ is) i h = let rest = parted_at c is i h.1 in ((h.0, rest.0), rest.1)

parted : (c : Contents) (is : List Item) (o : Option Item) → ItemsNamed c (is ++ option_to_list o) → ItemsNamed c is × IfSome o (λ i. PairsNamed c i.captured.items)
parted c is None h = (subst (ItemsNamed c) (append-nil is) h, tt)
parted c is (Some i) h = parted_at c is i h

-- what is left of a load once its last item was taken off
pub front_load : (old new : LoadParts) (o : Option Item) → IsLoad old → new.store ≡ old.store → new.templates ≡ old.templates → new.rules ≡ old.rules → old.items.items ≡ new.items.items ++ option_to_list o → IsLoad new
front_load old new o l es et er ei = record {
  frozen = subst (λ s. s.base ≡ length s.cells) (sym es) l.frozen;
  globals = subst HasGlobals (sym es) l.globals;
  templates = subst (λ s. TemplatesNamed s new.templates) (sym es) (subst (TemplatesNamed old.store) (sym et) l.templates);
  items = subst (λ s. ItemsNamed s new.items.items) (sym es) (parted old.store new.items.items o (subst (ItemsNamed old.store) ei l.items)).0;
  rules = subst (λ s. RulesNamed s new.rules.items) (sym es) (subst (λ rs. RulesNamed old.store rs.items) (sym er) l.rules);
}

pub last_named : (c : Contents) (all is : List Item) (o : Option Item) → ItemsNamed c all → all ≡ is ++ option_to_list o → IfSome o (λ i. PairsNamed c i.captured.items)
last_named c all is o h e = (parted c is o (subst (ItemsNamed c) e h)).1
