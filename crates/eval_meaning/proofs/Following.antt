-- Over a view, an evaluation is the one over a world of which the view is part, up to the first read that the view leaves undecided.
use Rattle.std.proofs.Common.{◌≡◌, ℕ, List, [], ◌∷◌, ◌++◌, Bool, true, false, cond, refl, sym, ap, ◌∙◌, subst, append_assoc}
use Rattle.std.specs.Prelude.{nat_lt, ◌-◌}
use Rattle.site_base.specs.Data.{Data}
use Rattle.site_base.specs.declared.place.Place.{Place}
use Rattle.site_base.specs.declared.diag_kind.DiagKind.{DiagKind}
use Rattle.site_base.specs.declared.diag_kind.DiagKind.TheVariants.{SpaceLimit}
use Rattle.dsl_syntax.specs.Syntax.{Expression, Statements}
use Rattle.dsl_value.specs.PlainStores.{PlainStore}
use Rattle.dsl_value.specs.Loads.{cost}
use Rattle.eval_meaning.specs.Registered.{PlainTemplate, PlainRule, PlainFile}
use Rattle.eval_meaning.specs.Views.{View, host, service, Sight, shown, absent, undecided, sight, IsDecided, IsWorld, IsPart}
use Rattle.eval_meaning.specs.States.{State, Outcome, gives, faults, blocked, ◌>>=◌, done, fault}
use Rattle.eval_meaning.specs.Steps.{IsStep, framed, counted, charged, made, function_kept, written_to, loaded_to}
use Rattle.eval_meaning.specs.Objects.{read, seen, with_read, with_tree, loaded}
use Rattle.eval_meaning.specs.Onward.{Reads, GoesOnward}
use Rattle.eval_meaning.specs.Follows.{reads_of, AreDecided, Follows}
use Rattle.eval_meaning.specs.Evaluation.{evaluated, value_of, body_of}
use Rattle.eval_meaning.specs.declared.read.Read.{Read}
use Rattle.eval_meaning.proofs.Every.{IsRule, P, AreEvery, every, every_result, other}
use Rattle.eval_meaning.proofs.Onward.{no_more, reads_on, loaded_onward}

-- it follows where the reads before it are decided, and then its own reads are
pub record FollowsFrom {A : Type 0} (view : View) (s : State) (x y : Outcome A) : Type 0 where
  pub reads : Reads s.reads (reads_of y)
  pub follows : AreDecided view s.reads → Follows view x y
  pub decided : AreDecided view s.reads → AreDecided view (reads_of x)

here : (view : View) {A : Type 0} (a : A) (s : State) → FollowsFrom view s (gives a s) (gives a s)
here view a s = record { reads = no_more s.reads; follows = λ d. refl; decided = λ d. d }

stops : (view : View) (A : Type 0) (l : Place) (k : DiagKind) (t : List ℕ) (s : State) → FollowsFrom {A = A} view s (faults l k t s.reads) (faults l k t s.reads)
stops view A l k t s = record { reads = no_more s.reads; follows = λ d. refl; decided = λ d. d }

-- ---- one evaluation after another

reads_bound : {A B : Type 0} (rs : List Read) (y : Outcome A) (g : A → State → Outcome B) → Reads rs (reads_of y) → ((a : A) (t : State) → Reads t.reads (reads_of (g a t))) → Reads rs (reads_of (y >>= g))
reads_bound rs (gives a t) g h k = reads_on rs t.reads (reads_of (g a t)) h (k a t)
reads_bound rs (faults l j t qs) g h k = h
reads_bound rs (blocked r qs) g h k = h

bound_after : {A B : Type 0} (rs : List Read) (r : Read) (rest : List Read) (y : Outcome A) (g : A → State → Outcome B) → reads_of y ≡ rs ++ r ∷ rest → ((a : A) (t : State) → Reads t.reads (reads_of (g a t))) → (more : List Read) × (reads_of (y >>= g) ≡ rs ++ r ∷ more)
bound_after rs r rest (gives a t) g h k =
    let m = k a t in
    (rest ++ m.0, m.1 ∙ ap (λ l. l ++ m.0) h ∙ append_assoc rs (r ∷ rest) m.0)
bound_after rs r rest (faults l j t qs) g h k = (rest, h)
bound_after rs r rest (blocked q qs) g h k = (rest, h)

follows_bound : {A B : Type 0} (view : View) (s : State) (x y : Outcome A) (f g : A → State → Outcome B) → FollowsFrom view s x y → ((a : A) (t : State) → FollowsFrom view t (f a t) (g a t)) → AreDecided view s.reads → Follows view (x >>= f) (y >>= g)
follows_bound view s (gives a t) y f g h k d = subst (λ o. Follows view (f a t) (o >>= g)) (sym (h.follows d)) ((k a t).follows (h.decided d))
follows_bound view s (faults l j t rs) y f g h k d = ap (λ o. o >>= g) (h.follows d)
follows_bound view s (blocked r rs) y f g h k d =
    let w = h.follows d in
    let b = bound_after rs r w.2 y g w.3 (λ a t. (k a t).reads) in
    (w.0, w.1, b.0, b.1)

decided_bound : {A B : Type 0} (view : View) (s : State) (x y : Outcome A) (f g : A → State → Outcome B) → FollowsFrom view s x y → ((a : A) (t : State) → FollowsFrom view t (f a t) (g a t)) → AreDecided view s.reads → AreDecided view (reads_of (x >>= f))
decided_bound view s (gives a t) y f g h k d = (k a t).decided (h.decided d)
decided_bound view s (faults l j t rs) y f g h k d = h.decided d
decided_bound view s (blocked r rs) y f g h k d = h.decided d

binds : (view : View) {A B : Type 0} (s : State) (x y : Outcome A) (f g : A → State → Outcome B) → FollowsFrom view s x y → ((a : A) (t : State) → FollowsFrom view t (f a t) (g a t)) → FollowsFrom view s (x >>= f) (y >>= g)
binds view s x y f g h k = record {
  reads = reads_bound s.reads y g h.reads (λ a t. (k a t).reads);
  follows = follows_bound view s x y f g h k;
  decided = decided_bound view s x y f g h k;
}

-- ---- a step reads nothing

step_reads : (s t : State) → IsStep s t → t.reads ≡ s.reads
step_reads s t (framed this locals in_file) = refl
step_reads s t (counted some) = refl
step_reads s t (charged n le) = refl
step_reads s t (loaded_to f own) = refl
step_reads s t (made n c some le) = refl
step_reads s t (function_kept f) = refl
step_reads s t (written_to n k c le base kind) = refl

steps : (view : View) {A : Type 0} (s t : State) (x y : Outcome A) → IsStep s t → FollowsFrom view t x y → FollowsFrom view s x y
steps view s t x y m h =
    let e = step_reads s t m in
    record {
      reads = subst (λ rs. Reads rs (reads_of y)) e h.reads;
      follows = λ d. h.follows (subst (AreDecided view) (sym e) d);
      decided = λ d. h.decided (subst (AreDecided view) (sym e) d);
    }

-- ---- reads

decided_with : (view : View) (rs : List Read) (r : Read) → AreDecided view rs → IsDecided (sight view r) → AreDecided view (rs ++ r ∷ [])
decided_with view [] r d h = (h, tt)
decided_with view (q ∷ rs) r d h = (d.0, decided_with view rs r d.1 h)

loaded_follows : (view : View) (l : Place) (r : Read) (d : Data) (s : State) → IsDecided (sight view r) → FollowsFrom view s (loaded l d (with_read r s)) (loaded l d (with_read r s))
loaded_follows view l r d s is = by (nat_lt s.space (cost d))
  where
    by : (b : Bool) → FollowsFrom view s (cond b (fault l SpaceLimit (with_read r s)) (done (record (with_read r s) { space = s.space - cost d })) >>= λ u s1. with_tree d s1) (cond b (fault l SpaceLimit (with_read r s)) (done (record (with_read r s) { space = s.space - cost d })) >>= λ u s1. with_tree d s1)
    by true = record { reads = (r ∷ [], refl); follows = λ h. refl; decided = λ h. decided_with view s.reads r h is }
    by false = record { reads = (r ∷ [], refl); follows = λ h. refl; decided = λ h. decided_with view s.reads r h is }

-- all reads of a tree that is loaded after a read
read_first : {A : Type 0} (s : State) (r : Read) (y : Outcome A) → GoesOnward (with_read r s) y → (more : List Read) × (reads_of y ≡ s.reads ++ r ∷ more)
read_first s r (gives a t) h = let m = h.reads in (m.0, m.1 ∙ append_assoc s.reads (r ∷ []) m.0)
read_first s r (faults l k t rs) h = (h.0, h.1 ∙ append_assoc s.reads (r ∷ []) h.0)
read_first s r (blocked q rs) h = (h.0, h.1 ∙ append_assoc s.reads (r ∷ []) h.0)

seen_follows : (view : View) (l : Place) (r : Read) (o p : Sight) (s : State) → sight view r ≡ o → ((d : Data) → o ≡ shown d → p ≡ shown d) → (o ≡ absent → p ≡ absent) → IsDecided p → FollowsFrom view s (seen l r o s) (seen l r p s)
seen_follows view l r (shown d) p s is shows lacks whole = subst (λ q. FollowsFrom view s (seen l r (shown d) s) (seen l r q s)) (sym (shows d refl)) (loaded_follows view l r d s (subst IsDecided (sym is) tt))
seen_follows view l r absent p s is shows lacks whole =
    subst (λ q. FollowsFrom view s (seen l r absent s) (seen l r q s)) (sym (lacks refl))
    (record { reads = (r ∷ [], refl); follows = λ h. refl; decided = λ h. decided_with view s.reads r h (subst IsDecided (sym is) tt) })
seen_follows view l r undecided (shown d) s is shows lacks whole =
    let m = read_first s r (loaded l d (with_read r s)) (loaded_onward l d (with_read r s)) in
    record { reads = (r ∷ m.0, m.1); follows = λ h. (is, h, m.0, m.1); decided = λ h. h }
seen_follows view l r undecided absent s is shows lacks whole =
    record { reads = (r ∷ [], refl); follows = λ h. (is, h, [], refl); decided = λ h. h }
seen_follows view l r undecided undecided s is shows lacks whole = absurd whole

read_follows : (view world : View) (l : Place) (r : Read) (s : State) → IsPart view world → IsDecided (sight world r) → FollowsFrom view s (read view l r s) (read world l r s)
unfolding read
read_follows view world l r s part whole = seen_follows view l r (sight view r) (sight world r) s refl (part.shows r) (part.lacks r) whole

-- ---- a world of which the view is part is the view with other objects

site_of : PlainStore → List PlainTemplate → List PlainRule → List PlainFile → View → View
site_of store templates rules files w = record w { store = store; templates = templates; rules = rules; files = files }

other_is : (view world : View) → IsPart view world → other view world.objects world.absent world.whole ≡ world
unfolding site_of
other_is view world part =
    ap (λ x. site_of x view.templates view.rules view.files world) part.store
    ∙ ap (λ x. site_of world.store x view.rules view.files world) part.templates
    ∙ ap (λ x. site_of world.store world.templates x view.files world) part.rules
    ∙ ap (λ x. site_of world.store world.templates world.rules x world) part.files

module _ (view world : View) (part : IsPart view world) (whole : IsWorld world) where
  hosts : (l : Place) (n : List ℕ) (s : State) → FollowsFrom view s (read view l (host n) s) (read (other view world.objects world.absent world.whole) l (host n) s)
  hosts l n s = subst (λ w. FollowsFrom view s (read view l (host n) s) (read w l (host n) s)) (sym (other_is view world part)) (read_follows view world l (host n) s part (whole.hosts n))

  services : (l : Place) (h n : List ℕ) (s : State) → FollowsFrom view s (read view l (service h n) s) (read (other view world.objects world.absent world.whole) l (service h n) s)
  services l h n s = subst (λ w. FollowsFrom view s (read view l (service h n) s) (read w l (service h n) s)) (sym (other_is view world part)) (read_follows view world l (service h n) s part (whole.services h n))

  rule : IsRule view (other view world.objects world.absent world.whole)
  rule = record {
    P = λ s x y. FollowsFrom view s x y;
    here = λ a s. here view a s;
    stops = λ A l k t s. stops view A l k t s;
    binds = λ s x y f g h k. binds view s x y f g h k;
    steps = λ s t x y m h. steps view s t x y m h;
    hosts = hosts;
    services = services;
  }

  parts : (depth : ℕ) → AreEvery view world.objects world.absent world.whole rule (evaluated view depth) (evaluated (other view world.objects world.absent world.whole) depth)
  parts depth = every view world.objects world.absent world.whole rule depth

  value_from : (depth : ℕ) (e : Expression) (s : State) → FollowsFrom view s (value_of view depth e s) (value_of (other view world.objects world.absent world.whole) depth e s)
  unfolding P rule
  value_from depth e s = (parts depth).value e s

  pub value_follows : (depth : ℕ) (e : Expression) (s : State) → AreDecided view s.reads → Follows view (value_of view depth e s) (value_of world depth e s)
  value_follows depth e s d = subst (λ w. Follows view (value_of view depth e s) (value_of w depth e s)) (other_is view world part) ((value_from depth e s).follows d)

  body_from : (depth : ℕ) (b : Statements) (s : State) → FollowsFrom view s (body_of view depth b s) (body_of (other view world.objects world.absent world.whole) depth b s)
  unfolding P rule
  body_from depth b s = every_result view world.objects world.absent world.whole rule depth b s

  pub body_follows : (depth : ℕ) (b : Statements) (s : State) → AreDecided view s.reads → Follows view (body_of view depth b s) (body_of world depth b s)
  body_follows depth b s d = subst (λ w. Follows view (body_of view depth b s) (body_of w depth b s)) (other_is view world part) ((body_from depth b s).follows d)
