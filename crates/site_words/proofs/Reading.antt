-- Options are read one after another, from the front.
use Rattle.std.proofs.Common.{◌≡◌, ◌≤◌, ◌-◌, ℕ, List, [], ◌∷◌, Bool, true, false, cond, length, take, drop, get_or, Option, Some, None, option_and_then, option_map, unwrap_or, refl, sym, ap, ◌∙◌, subst, arith}
use Rattle.run_text.specs.declared.style.Style.{Style}
use Rattle.site_words.specs.Commands.{Command, command_behind, command_by, command_from, command_own, is_option, is_recur, with_option, with_recur}
use Rattle.site_words.specs.Tasks.{Task, task_of}
use Rattle.site_words.specs.declared.options.Options.{Options}

whole : {A : Type 0} (xs : List A) → take (length xs) xs ≡ xs
whole [] = refl
whole (x ∷ xs) = ap (λ ys. x ∷ ys) (whole xs)

-- what stands behind the first one
pub behind_one : {A : Type 0} (x : A) (xs : List A) → xs ≡ take (length (x ∷ xs) - 1) (drop 1 (x ∷ xs))
behind_one x xs = let n : length (x ∷ xs) - 1 ≡ length xs = omega arith in sym (ap (λ k. take k xs) n ∙ whole xs)

-- Fewer than two words ask for nothing.

no_task : (version : Option Style) (recur : Bool) → task_of version recur [] ≡ None
no_task None false = refl
no_task None true = refl
no_task (Some version) recur = refl

one_task : (version : Option Style) (recur : Bool) (w : List ℕ) → task_of version recur (w ∷ []) ≡ None
one_task None false w = refl
one_task None true w = refl
one_task (Some version) recur w = refl

abbrev done_by : Options → Task → Command
done_by os t = record { task = t; workers = unwrap_or os.workers 1 }

none_of_none : (os : Options) → command_own os [] ≡ None
none_of_none os = ap (option_map (done_by os)) (no_task os.style os.recur)

none_of_one : (os : Options) (w : List ℕ) → command_own os (w ∷ []) ≡ None
none_of_one os w = ap (option_map (done_by os)) (one_task os.style os.recur w)

-- Before a command's own words.

module _ (os : Options) where
  abbrev from_by : (x y : List ℕ) (ws : List (List ℕ)) → Bool → Bool → Option Options → Option Options → Option Command
  from_by x y ws recur option next valued =
      cond recur (option_and_then (λ z. command_from z (y ∷ ws)) next) (cond option (option_and_then (λ z. command_from z ws) valued) (command_own os (x ∷ y ∷ ws)))

  -- where an option without a value is read
  pub recur_read : (ws : List (List ℕ)) (o : List ℕ) (more : Options) → 1 ≤ length ws → o ≡ get_or ws 0 o → is_recur o ≡ true → with_recur os ≡ Some more → command_from more (take (length ws - 1) (drop 1 ws)) ≡ command_from os ws
  recur_read [] o more one first is e = absurd (omega (arith, one))
  recur_read (x ∷ []) o more one first is e = refl
  recur_read (x ∷ y ∷ ws) o more one first is e =
      sym
      (ap (λ b. from_by x y ws b (is_option x) (with_recur os) (with_option os x y)) (subst (λ z. is_recur z ≡ true) first is)
      ∙ ap (option_and_then (λ z. command_from z (y ∷ ws))) e
      ∙ ap (command_from more) (behind_one x (y ∷ ws)))

  valued : (x : List ℕ) (xs r : List (List ℕ)) (o v : List ℕ) (more : Options) → r ≡ xs → o ≡ x → 1 ≤ length r → v ≡ get_or r 0 v → is_recur o ≡ false → is_option o ≡ true → with_option os o v ≡ Some more
      → command_from more (take (length r - 1) (drop 1 r)) ≡ command_from os (x ∷ xs)
  valued x [] r o v more is first one value plain option e = absurd (let none = ap length is in omega (arith, one, none))
  valued x (y ∷ ys) r o v more is first one value plain option e =
      let at : v ≡ y = value ∙ ap (λ xs. get_or xs 0 v) is in
      ap (λ xs. command_from more (take (length xs - 1) (drop 1 xs))) is
      ∙ ap (command_from more) (sym (behind_one y ys))
      ∙ sym
      (ap (λ b. from_by x y ys b (is_option x) (with_recur os) (with_option os x y)) (subst (λ z. is_recur z ≡ false) first plain)
      ∙ ap (λ b. from_by x y ys false b (with_recur os) (with_option os x y)) (subst (λ z. is_option z ≡ true) first option)
      ∙ ap (option_and_then (λ z. command_from z ys)) (ap (λ z. with_option os z y) (sym first) ∙ ap (with_option os o) (sym at) ∙ e))

  -- one with a value
  pub value_read : (ws r : List (List ℕ)) (o v : List ℕ) (more : Options) → 1 ≤ length ws → r ≡ take (length ws - 1) (drop 1 ws) → o ≡ get_or ws 0 o → 1 ≤ length r → v ≡ get_or r 0 v → is_recur o ≡ false → is_option o ≡ true → with_option os o v ≡ Some more
      → command_from more (take (length r - 1) (drop 1 r)) ≡ command_from os ws
  value_read [] r o v more one is first two value plain option e = absurd (omega (arith, one))
  value_read (x ∷ xs) r o v more one is first two value plain option e = valued x xs r o v more (is ∙ sym (behind_one x xs)) first two value plain option e

  -- none
  pub own_read : (ws : List (List ℕ)) (o : List ℕ) → 1 ≤ length ws → o ≡ get_or ws 0 o → is_recur o ≡ false → is_option o ≡ false → command_own os ws ≡ command_from os ws
  own_read [] o one first plain other = absurd (omega (arith, one))
  own_read (x ∷ []) o one first plain other = none_of_one os x
  own_read (x ∷ y ∷ ws) o one first plain other =
      sym
      (ap (λ b. from_by x y ws b (is_option x) (with_recur os) (with_option os x y)) (subst (λ z. is_recur z ≡ false) first plain)
      ∙ ap (λ b. from_by x y ws false b (with_recur os) (with_option os x y)) (subst (λ z. is_option z ≡ false) first other))

  -- no words
  pub none_read : (ws : List (List ℕ)) → length ws ≡ 0 → command_own os ws ≡ command_from os ws
  none_read [] e = none_of_none os
  none_read (x ∷ ws) e = absurd (omega (arith, e))

-- Behind them.

module _ (own : List (List ℕ)) (os : Options) where
  abbrev behind_by : (y : List ℕ) (ws : List (List ℕ)) → Bool → Option Options → Option Options → Option Command
  behind_by y ws recur next valued =
      cond recur (option_and_then (λ z. command_behind own z (y ∷ ws)) next) (option_and_then (λ z. command_behind own z ws) valued)

  abbrev last_by : Bool → Option Options → Option Command
  last_by recur next = cond recur (option_and_then (λ z. command_by z own) next) None

  pub recur_behind : (ws : List (List ℕ)) (o : List ℕ) (more : Options) → 1 ≤ length ws → o ≡ get_or ws 0 o → is_recur o ≡ true → with_recur os ≡ Some more → command_behind own more (take (length ws - 1) (drop 1 ws)) ≡ command_behind own os ws
  recur_behind [] o more one first is e = absurd (omega (arith, one))
  recur_behind (x ∷ []) o more one first is e =
      sym (ap (λ b. last_by b (with_recur os)) (subst (λ z. is_recur z ≡ true) first is) ∙ ap (option_and_then (λ z. command_by z own)) e)
  recur_behind (x ∷ y ∷ ws) o more one first is e =
      sym
      (ap (λ b. behind_by y ws b (with_recur os) (with_option os x y)) (subst (λ z. is_recur z ≡ true) first is)
      ∙ ap (option_and_then (λ z. command_behind own z (y ∷ ws))) e
      ∙ ap (command_behind own more) (behind_one x (y ∷ ws)))

  valued_behind : (x : List ℕ) (xs r : List (List ℕ)) (o v : List ℕ) (more : Options) → r ≡ xs → o ≡ x → 1 ≤ length r → v ≡ get_or r 0 v → is_recur o ≡ false → with_option os o v ≡ Some more
      → command_behind own more (take (length r - 1) (drop 1 r)) ≡ command_behind own os (x ∷ xs)
  valued_behind x [] r o v more is first one value plain e = absurd (let none = ap length is in omega (arith, one, none))
  valued_behind x (y ∷ ys) r o v more is first one value plain e =
      let at : v ≡ y = value ∙ ap (λ xs. get_or xs 0 v) is in
      ap (λ xs. command_behind own more (take (length xs - 1) (drop 1 xs))) is
      ∙ ap (command_behind own more) (sym (behind_one y ys))
      ∙ sym
      (ap (λ b. behind_by y ys b (with_recur os) (with_option os x y)) (subst (λ z. is_recur z ≡ false) first plain)
      ∙ ap (option_and_then (λ z. command_behind own z ys)) (ap (λ z. with_option os z y) (sym first) ∙ ap (with_option os o) (sym at) ∙ e))

  pub value_behind : (ws r : List (List ℕ)) (o v : List ℕ) (more : Options) → 1 ≤ length ws → r ≡ take (length ws - 1) (drop 1 ws) → o ≡ get_or ws 0 o → 1 ≤ length r → v ≡ get_or r 0 v → is_recur o ≡ false → with_option os o v ≡ Some more
      → command_behind own more (take (length r - 1) (drop 1 r)) ≡ command_behind own os ws
  value_behind [] r o v more one is first two value plain e = absurd (omega (arith, one))
  value_behind (x ∷ xs) r o v more one is first two value plain e = valued_behind x xs r o v more (is ∙ sym (behind_one x xs)) first two value plain e
