-- What a value names in a later store.
use Rattle.std.proofs.Common.{◌≡◌, ℕ, List, [], ◌∷◌, ◌++◌, length, arith, refl, sym, ◌∙◌, subst, length-append}
use Rattle.dsl_value.specs.Pairs.{Pairs}
use Rattle.dsl_value.specs.Contents.{Contents, PlainCell, with_cells}
use Rattle.dsl_value.specs.Grows.{Grows}
use Rattle.dsl_value.specs.Whole.{Names}
use Rattle.dsl_value.specs.declared.value.Value.{Value}
use Rattle.dsl_value.specs.declared.value.Value.TheVariants as value
use Rattle.eval_work.specs.Kept.{Named, NamedAll, PairsNamed, TemplatesNamed, ItemsNamed, RulesNamed, BoundNamed, HasGlobals, IsFit, IsLater, IsStill, IsKept, IsTold}
use Rattle.eval_work.specs.declared.item.Item.{Item}
use Rattle.eval_work.specs.declared.rule.Rule.{Rule}
use Rattle.eval_work.specs.declared.task.Task.{Task}
use Rattle.eval_work.specs.declared.task.Task.TheVariants as tasks
use Rattle.eval_work.specs.declared.template.Template.{Template}
use Rattle.eval_work.specs.declared.view.WorldView.{WorldView}
use Rattle.eval_work.specs.declared.work.Work.{Work}

-- a value that names a cell or function names it in a later store
pub names_later : (old new : Contents) (v : Value) → IsLater old new → Names (length old.cells) (length old.functions) v → Names (length new.cells) (length new.functions) v
names_later old new value.Null l h = tt
names_later old new (value.Bool b) l h = tt
names_later old new (value.Number n) l h = tt
names_later old new (value.Str t) l h = tt
names_later old new (value.Ref k) l h = omega (arith, h, l.cells)
names_later old new (value.Func k) l h = omega (arith, h, l.functions)

pub all_later : (old new : Contents) (vs : List Value) → IsLater old new → NamedAll old vs → NamedAll new vs
all_later old new [] l h = tt
all_later old new (v ∷ vs) l h = (names_later old new v l h.0, all_later old new vs l h.1)

pub pairs_later : (old new : Contents) (ps : Pairs) → IsLater old new → PairsNamed old ps → PairsNamed new ps
pairs_later old new [] l h = tt
pairs_later old new (p ∷ ps) l h = (names_later old new p.1 l h.0, pairs_later old new ps l h.1)

-- the last of the cells, once one more was made
pub last_named : (old new : Contents) (v : Value) (x : PlainCell) → v ≡ value.Ref (length old.cells) → new ≡ with_cells old (old.cells ++ x ∷ []) → Named new v
last_named old new v x is grown = subst (Named new) (sym is) (subst (λ c. Named c (value.Ref (length old.cells))) (sym grown) (omega (arith, length-append old.cells (x ∷ []))))

pub told_later : (v : WorldView) (old new : Contents) → IsLater old new → IsTold v old → IsTold v new
told_later v old new l h = record { templates = λ kind name t e. pairs_later old new t.captured l (h.templates kind name t e) }

-- ---- later stores

pub same_later : (old new : Contents) → new ≡ old → IsLater old new
same_later old new e = subst (IsLater old) (sym e) (record { cells = omega arith; functions = omega arith; first = refl })

pub later_later : (a b c : Contents) → IsLater a b → IsLater b c → IsLater a c
later_later a b c l m = record { cells = omega (arith, l.cells, m.cells); functions = omega (arith, l.functions, m.functions); first = m.first ∙ l.first }

pub grows_later : (n : ℕ) (old new : Contents) → HasGlobals old → Grows n old new → IsLater old new
grows_later n old new g h = record { cells = h.no_cell_lost; functions = h.no_function_lost; first = h.kinds 0 g.some }

globals_later : (old new : Contents) → IsLater old new → HasGlobals old → HasGlobals new
globals_later old new l g = record { some = omega (arith, g.some, l.cells); dict = l.first ∙ g.dict }

templates_later : (old new : Contents) (ts : List Template) → IsLater old new → TemplatesNamed old ts → TemplatesNamed new ts
templates_later old new [] l h = tt
templates_later old new (t ∷ ts) l h = (pairs_later old new t.captured.items l h.0, templates_later old new ts l h.1)

items_later : (old new : Contents) (is : List Item) → IsLater old new → ItemsNamed old is → ItemsNamed new is
items_later old new [] l h = tt
items_later old new (i ∷ is) l h = (pairs_later old new i.captured.items l h.0, items_later old new is l h.1)

rules_later : (old new : Contents) (rs : List Rule) → IsLater old new → RulesNamed old rs → RulesNamed new rs
rules_later old new [] l h = tt
rules_later old new (r ∷ rs) l h = (pairs_later old new r.captured.items l h.0, rules_later old new rs l h.1)

bound_later : (old new : Contents) (t : Task) → IsLater old new → BoundNamed old t → BoundNamed new t
bound_later old new (tasks.Item k b) l h = pairs_later old new b l h
bound_later old new tasks.Rule l h = tt
bound_later old new (tasks.Load m) l h = record {
  templates = templates_later old new m.templates l h.templates;
  items = items_later old new m.items.items l h.items;
  rules = rules_later old new m.rules.items l h.rules;
}

-- ---- works with a later store

-- a work with the same frame and task
pub fit_later : (old new : Work) → IsFit old → IsLater old.store new.store → new.this ≡ old.this → new.locals ≡ old.locals → new.task ≡ old.task → IsFit new
fit_later old new f l this locals task = record {
  this = subst (Named new.store) (sym this) (names_later old.store new.store old.this l f.this);
  locals = subst (PairsNamed new.store) (sym locals) (pairs_later old.store new.store old.locals l f.locals);
  bound = subst (BoundNamed new.store) (sym task) (bound_later old.store new.store old.task l f.bound);
  globals = globals_later old.store new.store l f.globals;
}

pub still_later : (old new : Work) → IsFit old → IsLater old.store new.store → new.this ≡ old.this → new.locals ≡ old.locals → new.task ≡ old.task → IsStill old new
still_later old new f l this locals task = record { fit = fit_later old new f l this locals task; later = l }

pub still_grown : (n : ℕ) (old new : Work) → IsFit old → Grows n old.store new.store → new.this ≡ old.this → new.locals ≡ old.locals → new.task ≡ old.task → IsStill old new
still_grown n old new f g this locals task = still_later old new f (grows_later n old.store new.store f.globals g) this locals task

pub still_on : (a b c : Work) → IsStill a b → IsStill b c → IsStill a c
still_on a b c l m = record { fit = m.fit; later = later_later a.store b.store c.store l.later m.later }

pub kept_same : (w : Work) (v : Value) → IsFit w → Named w.store v → IsKept w w v
kept_same w v f n = record { fit = f; later = same_later w.store w.store refl; named = n }
