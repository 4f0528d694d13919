-- Groups, one after another.
use Rattle.std.proofs.Common.{◌≡◌, ℕ, List, [], ◌∷◌, ◌++◌, Result, Ok, Err, Bool, true, false, Option, Some, None, refl, sym, ap, ◌∙◌, subst}
use Rattle.std.specs.Prelude.{codes}
use Rattle.site_base.specs.Data.{Data}
use Rattle.site_base.specs.declared.item_no.ItemNo.{ItemNo}
use Rattle.dsl_syntax.specs.Syntax.{statement, assign, ignore, Statements, no_statements, more_statements}
use Rattle.eval_meaning.specs.Registered.{PlainItem}
use Rattle.eval_meaning.specs.States.{State, Outcome, gives, faults, blocked, ◌>>=◌, rule}
use Rattle.eval_meaning.specs.Views.{View, sight, sight_by, object_in, is_absent}
use Rattle.eval_meaning.specs.Objects.{with_read}
use Rattle.eval_meaning.specs.declared.read.Read.{Read}
use Rattle.eval_work.specs.Works.{Gives}
use Rattle.eval_work.specs.declared.stop.Stop.{Stop}
use Rattle.eval_work.specs.declared.stop.Stop.TheVariants as stops
use Rattle.commit_meaning.specs.Conditions.{Verdict, no_verdict, judged}
use Rattle.commit_meaning.specs.Groups.{Taken, taken_by, caught, group_run, host_seen, service_names, service_seen}
use Rattle.commit_meaning.specs.Rules.{in_rule}
use Rattle.commit_meaning.specs.Starts.{Trees, fresh, values_of}
use Rattle.item_start.proofs.Bindings.{values_are_bound}
use Rattle.rule_expressions.specs.Conditional.{has_conditions}
use Rattle.rule_expressions.specs.Framed.{in_rule_with}
use Rattle.group_rules.specs.ReadsLeft.{GivesReads}

-- ---- one group

-- the conditions of a group, once their frame is entered
pub group_is : (v : View) (names : Trees) (g : PlainItem) (s : State) → group_run v names g s ≡ judged v g.body no_verdict (in_rule_with g.captured names s)
group_is v names g s = ap (λ o. o >>= λ bound s1. judged v g.body no_verdict (in_rule g.captured bound s1)) (values_are_bound names [] s)

pub reads_left : {X Y : Type 0} (view : X → Y) (r : Result X Stop) (new : State) (o : Outcome Y) → Gives view r new o → GivesReads view r new.reads o
reads_left view (Ok x) new o h = (new, h, refl)
reads_left view (Err stops.Memory) new o h = tt
reads_left view (Err (stops.Fault l k t)) new o h = h
reads_left view (Err (stops.Blocked q)) new o h = h

pub name_caught : (v : View) (n : ItemNo) (g : PlainItem) (t t1 : Taken) (o : Outcome Verdict) (w : Verdict) (s : State) (rs : List Read) → o ≡ gives w s → s.reads ≡ rs → t1 ≡ taken_by g.name w t → caught v n g t o ≡ gives t1 (fresh v.store rule rs)
name_caught v n g t t1 o w s rs e er et = ap (caught v n g t) e ∙ (ap (λ x. gives (taken_by g.name w t) (fresh v.store rule x)) er ∙ ap (λ x. gives x (fresh v.store rule rs)) (sym et))

-- without conditions nothing is evaluated
pub judged_none : (view : View) (xs : Statements) (v : Verdict) (s : State) → has_conditions xs ≡ false → judged view xs v s ≡ gives v s
judged_none view no_statements v s h = refl
judged_none view (more_statements (statement l (assign e)) xs) v s h = let e : true ≡ false = h in absurd cc
judged_none view (more_statements (statement l (ignore e)) xs) v s h = let e : true ≡ false = h in absurd cc
judged_none view (more_statements x xs) v s h = judged_none view xs v s h

-- ---- the host of a service

sight_is : (view : View) (r : Read) (o : Option Data) (b : Bool) → object_in r view.objects ≡ o → is_absent view r ≡ b → sight view r ≡ sight_by o b
unfolding sight
sight_is view r o b h k = ap (λ x. sight_by x (is_absent view r)) h ∙ ap (sight_by o) k

seen_by : (view : View) (d : Data) (r : Read) (s : State) (o : Option Data) (b : Bool) → object_in r view.objects ≡ o → is_absent view r ≡ b → service_seen view d r s ≡ (host_seen r (sight_by o b) s >>= λ x s1. gives (service_names d x) s1)
seen_by view d r s o b h k = ap (λ x. host_seen r x s >>= λ y s1. gives (service_names d y) s1) (sight_is view r o b h k)

pub host_shown : (view : View) (d h : Data) (r : Read) (s : State) → object_in r view.objects ≡ Some h → service_seen view d r s ≡ gives (service_names d (Some h)) (with_read r s)
host_shown view d h r s e = seen_by view d r s (Some h) (is_absent view r) e refl

pub host_absent : (view : View) (d : Data) (r : Read) (s : State) → object_in r view.objects ≡ None → is_absent view r ≡ true → service_seen view d r s ≡ gives None (with_read r s)
host_absent view d r s e k = seen_by view d r s None true e k

pub host_undecided : (view : View) (d : Data) (r : Read) (s : State) → object_in r view.objects ≡ None → is_absent view r ≡ false → service_seen view d r s ≡ blocked r s.reads
host_undecided view d r s e k = seen_by view d r s None false e k
