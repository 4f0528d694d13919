-- A host and one service of it are a sound site: what `IsSound` asks for can be had.
use Rattle.std.proofs.Common.{◌≡◌, ◌≢◌, ◌≤◌, ℕ, zero, suc, List, [], ◌∷◌, get_or, ap, None, Some, refl, arith, All, IsSomeAnd, lit<, lit≤}
use Rattle.site_base.specs.Data.{null}
use Rattle.site_model.specs.PlainSite.{PlainCheck, PlainSite, plain_check, plain_site}
use Rattle.site_model.specs.Sound.{AreDistinct, IsIndex, IsIndexOrNone, IsSound}

-- P holds of each of no elements, and of each of one more
none : {X : Type 0} (P : X → Type 0) → All P []
none P k d inside = absurd (omega arith)

more : {X : Type 0} (P : X → Type 0) (x : X) (xs : List X) → P x → All P xs → All P (x ∷ xs)
more P x xs here rest zero d inside = here
more P x xs here rest (suc k) d inside = rest k d (omega arith)

distinct_none : {X : Type 0} → AreDistinct {X = X} []
distinct_none i j d before inside = absurd (omega arith)

distinct_two : {X : Type 0} (a b : X) → a ≢ b → AreDistinct (a ∷ b ∷ [])
distinct_two a b differ zero zero d before inside = absurd (omega arith)
distinct_two a b differ zero (suc zero) d before inside = differ
distinct_two a b differ zero (suc (suc j)) d before inside = absurd (omega arith)
distinct_two a b differ (suc i) zero d before inside = absurd (omega arith)
distinct_two a b differ (suc i) (suc j) d before inside = absurd (omega arith)

apart : (a b : List ℕ) → get_or a 0 0 ≡ 1 → get_or b 0 0 ≡ 2 → a ≢ b
apart a b one two e = omega (arith, one, two, ap (λ (xs : List ℕ). get_or xs 0 0) e)

abbrev small : PlainSite
small = record (plain_site (plain_check (1 ∷ []) None ∷ plain_check (2 ∷ []) (Some 0) ∷ []) ((1 ∷ []) ∷ (2 ∷ []) ∷ [])) { commands = record { name = 3 ∷ []; tree = null } ∷ [] }

pub small_is_sound : IsSound small
small_is_sound =
    let host : PlainCheck = plain_check (1 ∷ []) None in
    let service : PlainCheck = plain_check (2 ∷ []) (Some 0) in
    let SomeAttempt : PlainCheck → Type 0 = λ c. 1 ≤ c.max in
    let NoHost : PlainCheck → Type 0 = λ c. c.host ≡ None in
    let OneHost : PlainCheck → Type 0 = λ c. IsSomeAnd c.host (IsIndex 1) in
    let OneCommand : PlainCheck → Type 0 = λ c. IsIndex 1 c.command in
    let NoPeriod : PlainCheck → Type 0 = λ c. IsIndexOrNone 0 c.period in
    record {
      in_order = record {
        hosts = host ∷ [];
        services = service ∷ [];
        in_order = refl;
        hosts_have_none = more NoHost host [] refl (none NoHost);
        services_have_one = more OneHost service [] (lit< tt) (none OneHost);
      };
      names = record { named = refl; distinct = distinct_two (1 ∷ []) (2 ∷ []) (apart (1 ∷ []) (2 ∷ []) refl refl) };
      attempts = more SomeAttempt host (service ∷ []) (lit≤ tt) (more SomeAttempt service [] (lit≤ tt) (none SomeAttempt));
      places = none _;
      commands = more OneCommand host (service ∷ []) (lit< tt) (more OneCommand service [] (lit< tt) (none OneCommand));
      periods = more NoPeriod host (service ∷ []) tt (more NoPeriod service [] tt (none NoPeriod));
      depends = none _;
      depend_names = distinct_none;
      notifies = none _;
      notify_names = distinct_none;
      users = none _;
      user_names = distinct_none;
      few_depends = lit< tt;
      few_notifies = lit< tt;
      few_users = lit< tt;
      some_order = lit≤ tt;
      most_orders = lit≤ tt;
    }
