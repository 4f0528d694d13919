-- What templates captured, by the template that is found.
use Rattle.std.proofs.Common.{◌≡◌, ℕ, List, [], ◌∷◌, map, Bool, true, false, cond, Option, Some, None, ap, subst}
use Rattle.std.specs.Prelude.{◌&&◌}
use Rattle.std.specs.Str.{bytes_eq}
use Rattle.dsl_value.specs.Contents.{Contents}
use Rattle.eval_meaning.specs.Registered.{PlainTemplate}
use Rattle.eval_meaning.specs.Views.{template_in}
use Rattle.eval_work.specs.Kept.{PairsNamed, TemplatesNamed}
use Rattle.eval_work.specs.Works.{plain_template}
use Rattle.eval_work.specs.declared.template.Template.{Template}

abbrev captured_or : Template → Option PlainTemplate → PlainTemplate
captured_or t None = plain_template t
captured_or t (Some x) = x

pub told : (c : Contents) (ts : List Template) → TemplatesNamed c ts → (kind name : List ℕ) (t : PlainTemplate) → template_in kind name (map plain_template ts) ≡ Some t → PairsNamed c t.captured
told c [] h kind name t e = absurd cc
told c (s ∷ ts) h kind name t e = by (told c ts h.1 kind name t) (bytes_eq kind s.kind && bytes_eq name s.name) e
  where
    by : (template_in kind name (map plain_template ts) ≡ Some t → PairsNamed c t.captured) → (b : Bool) → cond b (Some (plain_template s)) (template_in kind name (map plain_template ts)) ≡ Some t → PairsNamed c t.captured
    by rest true q = subst (λ (x : PlainTemplate). PairsNamed c x.captured) (ap (captured_or s) q) h.0
    by rest false q = rest q
