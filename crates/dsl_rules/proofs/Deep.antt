-- The laws of every grammar that fits.
use Rattle.std.proofs.Common.{◌≡◌, ℕ, zero, suc, ◌+◌, ◌<◌, ◌≤◌, List, [], ◌∷◌, ◌++◌, length, Bool, true, false, not, cond, Option, Some, None, refl, sym, ap, ◌∙◌, subst, inl, inr, arith, append_assoc, true≢false}
use Rattle.std.specs.Prelude.{◌⊎◌}
use Rattle.dsl_rules.specs.Alphabet.{Sort, same, Alphabet, among, outside, apart, and, or, where_holds, at}
use Rattle.dsl_rules.specs.Rules.{Rule, Both, Not, may}
use Rattle.dsl_rules.specs.Grammar.{Grammar, one, empty, both, either, ahead, made, here, loop, chain, rec, rec_not, Rules, Derives, Pair, pair, always, fold_pair}
use Rattle.dsl_rules.specs.Reading.{Read, got, bad, ◌>>=◌, null, first, read, both_read}
use Rattle.dsl_rules.proofs.Basics.{among_is, and_left, and_right}
use Rattle.dsl_rules.proofs.Law.{Sets, Law, weight}
use Rattle.dsl_rules.proofs.Single.{law_one, law_empty}
use Rattle.dsl_rules.proofs.Twice.{law_both}
use Rattle.dsl_rules.proofs.Choice.{law_either, law_ahead, law_made, law_not, law_here}
use Rattle.dsl_rules.proofs.Loops.{law_loop}
use Rattle.dsl_rules.proofs.Shape.{Lift, lift, lower, go, far, sure, guarded, sets, name_sets, room, Env, subset, Fits, Apart, apart_each}
use Rattle.dsl_rules.proofs.Repeat.{turn_first}

-- a bound for fewer tokens
pub law_fewer : {T A : Type 0} (al : Alphabet T) (S : Sets) (n r r' s s' : ℕ) (R : ℕ → Rule T A) (p p' : List T → Read T A) → s ≤ r → s' ≤ r' → Law al S n r r' R p p' → Law al S n s s' R p p'
law_fewer al S n r r' s s' R p p' le le' l = record {
  free = l.free;
  more = l.more;
  full = l.full;
  sound = l.sound;
  complete = λ h ts a rest lt d q. l.complete h ts a rest (omega arith) d q;
  alive = λ ts s lt e. l.alive ts s (omega arith) e;
  local = λ front t s s' f o lt lt' c e. l.local front t s s' f o (omega arith) (omega arith) c e;
  known = l.known;
  takes = λ t ts o k lt m e. l.takes t ts o k (omega arith) m e;
}

most_left : (n : ℕ) (a b : Bool) → cond (and a b) (suc n) n ≤ cond a (suc n) n
most_left n true true = omega arith
most_left n true false = omega arith
most_left n false b = omega arith

most_right : (n : ℕ) (a b : Bool) → cond (and a b) (suc n) n ≤ cond b (suc n) n
most_right n true true = omega arith
most_right n true false = omega arith
most_right n false true = omega arith
most_right n false false = omega arith

-- behind a token there is one less
most_behind : (n : ℕ) (a b z : Bool) → cond (and a (or (not z) b)) (suc n) n ≤ cond b (suc n) n + cond z 0 1
most_behind n true true true = omega arith
most_behind n true true false = omega arith
most_behind n true false true = omega arith
most_behind n true false false = omega arith
most_behind n false true true = omega arith
most_behind n false true false = omega arith
most_behind n false false true = omega arith
most_behind n false false false = omega arith

most_all : (n : ℕ) (a : Bool) → cond a (suc n) n ≤ suc n
most_all n true = omega arith
most_all n false = omega arith

module _ {T N : Type 0} (al : Alphabet T) (V : N → Type 0) (F G : N → List Sort) (opening : N → Sort) where
  subset_of : (cs ds : List Sort) → subset al V F G opening cs ds ≡ true → (c : Sort) → among c cs ≡ true → among c ds ≡ true
  subset_of [] ds h c m = absurd cc
  subset_of (x ∷ xs) ds h c m = by (subset_of xs ds (and_right (among x ds) (subset al V F G opening xs ds) h) c) (Rattle.dsl_rules.specs.Alphabet.same c x) refl m
    where
      by : (among c xs ≡ true → among c ds ≡ true) → (b : Bool) → same c x ≡ b → cond b true (among c xs) ≡ true → among c ds ≡ true
      by again true s m = among_is c x ds s (and_left (among x ds) (subset al V F G opening xs ds) h)
      by again false s m = again m

  module _ (Also : ℕ → (ℕ → Rules T N V) → ((k : N) → List T → Read T (V k)) → Type 0) (n n' m m' : ℕ) (L : ℕ → Rules T N V) (E E' : (k : N) → List T → Read T (V k)) (env : Env al V F G opening Also n n' L E E') (most : suc n ≤ m) (most' : suc n' ≤ m') where
    abbrev LawOf : {A : Type 0} → Grammar T N V A → Type 0
    LawOf g = Law al (sets al V F G opening g) n (room al V F G opening n g) (room al V F G opening n' g) (λ h. Derives al (L h) g) (read al F m E g) (read al F m' E' g)

    abbrev gd : {A : Type 0} → Grammar T N V A → Bool
    gd g = guarded al V F G opening g

    abbrev st : {A : Type 0} → Grammar T N V A → Sets
    st g = sets al V F G opening g

    abbrev rm : {A : Type 0} → ℕ → Grammar T N V A → ℕ
    rm n g = room al V F G opening n g

    abbrev nu : {A : Type 0} → Grammar T N V A → Bool
    nu g = null al false g

    abbrev pair_sets : {A B : Type 0} → Grammar T N V A → Grammar T N V B → Sets
    pair_sets g o = record {
      first = λ e. first al F e o ++ where_holds (null al e o) (first al F e g);
      null = λ e. and (null al e o) (null al e g);
      go = λ e. go al V F G opening e g ++ where_holds (null al e g) (go al V F G opening e o);
      far = far al V F G opening g;
      sure = where_holds (not (null al false o)) (sure al V F G opening o);
    }

    abbrev rec_not_sets : List Sort → N → Sets
    rec_not_sets cs k = record { first = λ e. outside cs (F k); null = λ e. false; go = λ e. cond e [] (G k); far = false; sure = outside cs (F k) }

    abbrev behind_room : {A B : Type 0} → ℕ → Grammar T N V A → Grammar T N V B → ℕ
    behind_room n g o = cond (and (gd o) (or (not (nu o)) (gd g))) (suc n) n

    not_both : (a b : Bool) → a ≡ false → and a b ≡ false
    not_both true b e = absurd cc
    not_both false b e = refl

    held : (c : Sort) (b : Bool) (cs : List Sort) → b ≡ false → among c cs ≡ true → among c (where_holds (not b) cs) ≡ true
    held c true cs e m = absurd cc
    held c false cs e m = m

    map_right : {X Y Z : Type 0} → X ⊎ Y → (Y → Z) → X ⊎ Z
    map_right (inl x) f = inl x
    map_right (inr y) f = inr (f y)

    abbrev fits : {A : Type 0} → Grammar T N V A → Type 1
    fits g = Fits al V F G opening Also g

    pub law : {A : Type 0} (g : Grammar T N V A) → fits g → LawOf g
    law (one [] f) w = absurd (lower w)
    law (one (c ∷ cs) f) w = law_one al (c ∷ cs) c f n (suc n) (suc n') (lower w).0 (lower w).1
    law (empty v) w = law_empty al v n (suc n) (suc n')
    law (both f g h) w =
        law_both al f (st g) (st h) n (rm n g) (rm n' g) (rm n h) (rm n' h) (rm n (both f g h)) (rm n' (both f g h)) (λ k. Derives al (L k) g) (λ k. Derives al (L k) h) (read al F m E g) (read al F m' E' g) (read al F m E h) (read al F m' E' h)
        (law g w.0) (law h w.1) (apart_each (λ e. first al F e h) (λ e. go al V F G opening e g) (lower w.2).0) (lower w.2).1 (most_left n (gd g) (or (not (nu g)) (gd h))) (most_behind n (gd g) (gd h) (nu g)) (most_left n' (gd g) (or (not (nu g)) (gd h))) (most_behind n' (gd g) (gd h) (nu g))
    law (either g h) w =
        law_either al (st g) (st h) n (rm n (either g h)) (rm n' (either g h)) (λ k. Derives al (L k) g) (λ k. Derives al (L k) h) (read al F m E g) (read al F m' E' g) (read al F m E h) (read al F m' E' h)
        (law_fewer al (st g) n (rm n g) (rm n' g) (rm n (either g h)) (rm n' (either g h)) (λ k. Derives al (L k) g) (read al F m E g) (read al F m' E' g) (most_left n (gd g) (gd h)) (most_left n' (gd g) (gd h)) (law g w.0))
        (law_fewer al (st h) n (rm n h) (rm n' h) (rm n (either g h)) (rm n' (either g h)) (λ k. Derives al (L k) h) (read al F m E h) (read al F m' E' h) (most_right n (gd g) (gd h)) (most_right n' (gd g) (gd h)) (law h w.1))
        (lower w.2).0 (lower w.2).1
    law (ahead cs test g h) w =
        let lg = law_fewer al (st g) n (rm n g) (rm n' g) (rm n (ahead cs test g h)) (rm n' (ahead cs test g h)) (λ k. Derives al (L k) g) (read al F m E g) (read al F m' E' g) (most_left n (gd g) (gd h)) (most_left n' (gd g) (gd h)) (law g w.0) in
        let lh = law_fewer al (st h) n (rm n h) (rm n' h) (rm n (ahead cs test g h)) (rm n' (ahead cs test g h)) (λ k. Derives al (L k) h) (read al F m E h) (read al F m' E' h) (most_right n (gd g) (gd h)) (most_right n' (gd g) (gd h)) (law h w.1) in
        law_ahead al (st g) (st h) n (rm n (ahead cs test g h)) (rm n' (ahead cs test g h)) (λ k. Derives al (L k) g) (λ k. Derives al (L k) h) (read al F m E g) (read al F m' E' g) (read al F m E h) (read al F m' E' h) lg lh cs test (w.2 n n' m m' L E E' env most most' lg lh)
    law (made f g) w = law_made al f (st g) n (rm n g) (rm n' g) (λ k. Derives al (L k) g) (read al F m E g) (read al F m' E' g) (law g w)
    law (here f g) w = law_here al f (st g) n (rm n g) (rm n' g) (λ k. Derives al (L k) g) (read al F m E g) (read al F m' E' g) (law g w.0) (lower w.1)
    law (loop look cs more step s g) w =
        let x = lower w.2 in
        law_loop al look cs more step (st s) (st g) n (rm n s) (rm n' s) (rm n g) (rm n' g) (rm n (loop look cs more step s g)) (rm n' (loop look cs more step s g)) m m' (λ k. Derives al (L k) s) (λ k. Derives al (L k) g) (read al F m E s) (read al F m' E' s) (read al F m E g) (read al F m' E' g)
        (law s w.0) (law g w.1) x.0 x.1 (subset_of cs (sure al V F G opening g) x.2) (apart_each (turn_first al look (st g)) (λ e. go al V F G opening e g) x.3) (apart_each (turn_first al look (st g)) (λ e. go al V F G opening e s) x.4) (map_right x.5 (λ y. (y.0, (y.1.0, y.1.1, y.1.2 m E)))) (most_left n (gd s) (or (not (nu s)) (gd g))) (most_behind n (gd s) (gd g) (nu s)) (most_left n' (gd s) (or (not (nu s)) (gd g))) (most_behind n' (gd s) (gd g) (nu s)) (let k = most_all n (gd g) in omega (arith, k)) (let k = most_all n' (gd g) in omega (arith, k))
    law (chain cs f g o) w =
        let x = lower w.2 in
        law_loop al false cs always (fold_pair f) (st g) (pair_sets g o) n (rm n g) (rm n' g) (behind_room n g o) (behind_room n' g o) (rm n (chain cs f g o)) (rm n' (chain cs f g o)) m m' (λ k. Derives al (L k) g) (λ k ts a rest. Both pair (Derives al (L k) o) (Derives al (L k) g) ts a rest) (read al F m E g) (read al F m' E' g) (both_read pair (read al F m E o) (read al F m E g)) (both_read pair (read al F m' E' o) (read al F m' E' g))
        (law g w.0)
        (law_both al pair (st o) (st g) n (rm n o) (rm n' o) (rm n g) (rm n' g) (behind_room n g o) (behind_room n' g o) (λ k. Derives al (L k) o) (λ k. Derives al (L k) g) (read al F m E o) (read al F m' E' o) (read al F m E g) (read al F m' E' g) (law o w.1) (law g w.0) (apart_each (λ e. first al F e g) (λ e. go al V F G opening e o) x.4) x.3 (most_left n (gd o) (or (not (nu o)) (gd g))) (most_behind n (gd o) (gd g) (nu o)) (most_left n' (gd o) (or (not (nu o)) (gd g))) (most_behind n' (gd o) (gd g) (nu o)))
        (not_both (nu o) (nu g) x.0) (λ e. absurd cc) (λ c k. held c (nu o) (sure al V F G opening o) x.0 (subset_of cs (sure al V F G opening o) x.1 c k)) (apart_each (pair_sets g o).first (pair_sets g o).go x.5) (apart_each (pair_sets g o).first (λ e. go al V F G opening e g) x.6) (inl (x.2, x.2)) (most_left n (gd g) (or (not (nu g)) (and (gd o) (or (not (nu o)) (gd g))))) (most_behind n (gd g) (and (gd o) (or (not (nu o)) (gd g))) (nu g)) (most_left n' (gd g) (or (not (nu g)) (and (gd o) (or (not (nu o)) (gd g))))) (most_behind n' (gd g) (and (gd o) (or (not (nu o)) (gd g))) (nu g)) (let k = most_all n (and (gd o) (or (not (nu o)) (gd g))) in omega (arith, k)) (let k = most_all n' (and (gd o) (or (not (nu o)) (gd g))) in omega (arith, k))
    law (rec k f) w = law_made al f (name_sets al V F G opening k) n n n' (λ h. L h k) (E k) (E' k) (env.law k)
    law (rec_not cs k f) w =
        law_made al f (rec_not_sets cs k) n n n' (λ h. Not al cs (L h k)) (λ ts. cond (at al cs ts) (bad ts) (E k ts)) (λ ts. cond (at al cs ts) (bad ts) (E' k ts))
        (law_not al cs (name_sets al V F G opening k) n n n' (λ h. L h k) (E k) (E' k) (env.law k) refl (λ r. let x = env.opens k r in (x.0 ∷ x.1, x.2, (subst (λ z. among z cs ≡ false) (sym x.3) (lower w).0, x.4))) (λ e. refl) refl (lower w).1)
