-- Rings over plain functions: a cell taken out, and a cell put in at the end.
use Rattle.std.proofs.Common.{◌≡◌, ◌≢◌, ◌==◌, ℕ, suc, ◌<◌, ◌≤◌, Option, Some, None, if◌then◌else◌, sym, ap, ◌∙◌, inl, inr, arith}
use Rattle.std.proofs.lemmas.Bool.{cases_eq}
use Rattle.std.proofs.lemmas.Bool.Decides.{nat_tests}
use Rattle.std.proofs.lemmas.Option.{none-some, same_Some}
use Rattle.wheel_links.specs.Rings.{AreRings}

module _ {n : ℕ} {slot : ℕ → Option ℕ} {after before : ℕ → ℕ} (r : AreRings n slot after before) where
  -- no cell of a ring but its head is its own neighbour
  pub not_own : (c s : ℕ) → slot c ≡ Some s → n ≤ c → after c ≢ c
  not_own c s here high own =
      let e : before c ≡ c = sym (ap before own) ∙ r.back c s here in
      let less : r.rank (before c) < r.rank c = r.rises c s here high in
      let same : r.rank (before c) ≡ r.rank c = ap r.rank e in
      omega arith

  -- two cells with one cell behind them are one
  pub after_once : (x y s t : ℕ) → slot x ≡ Some s → slot y ≡ Some t → after x ≡ after y → x ≡ y
  after_once x y s t at_x at_y e = sym (r.back x s at_x) ∙ ap before e ∙ r.back y t at_y

  pub before_once : (x y s t : ℕ) → slot x ≡ Some s → slot y ≡ Some t → before x ≡ before y → x ≡ y
  before_once x y s t at_x at_y e = sym (r.forth x s at_x) ∙ ap after e ∙ r.forth y t at_y

module _ {n : ℕ} {slot slot' : ℕ → Option ℕ} {after before after' before' : ℕ → ℕ} (r : AreRings n slot after before) where
  module _ (c s : ℕ) (here : slot c ≡ Some s) (high : n ≤ c)
      (at_before : after' (before c) ≡ after c) (after_else : (x : ℕ) → x ≢ before c → after' x ≡ after x)
      (at_after : before' (after c) ≡ before c) (before_else : (x : ℕ) → x ≢ after c → before' x ≡ before x)
      (gone : slot' c ≡ None) (stays : (x : ℕ) → x ≢ c → slot' x ≡ slot x) where
    was : (x t : ℕ) → slot' x ≡ Some t → (x ≢ c) × (slot x ≡ Some t)
    was x t h =
        let other : x ≢ c = λ e. none-some t (sym gone ∙ ap slot' (sym e) ∙ h) in
        (other, sym (stays x other) ∙ h)

    -- a cell is taken out: its neighbours become each other's
    pub taken_out : AreRings n slot' after' before'
    taken_out = record {
      rank = r.rank;
      after_in = λ x t h.
          let w = was x t h in
          elim (cases_eq x (before c)) [
            | inl e ↦
                let same : s ≡ t = same_Some s t (sym (r.before_in c s here) ∙ ap slot (sym e) ∙ w.1) in
                ap slot' (ap after' e ∙ at_before) ∙ stays (after c) (not_own r c s here high) ∙ r.after_in c s here ∙ ap Some same
            | inr ne ↦
                let other : after x ≢ c = λ e. ne (sym (r.back x t w.1) ∙ ap before e) in
                ap slot' (after_else x ne) ∙ stays (after x) other ∙ r.after_in x t w.1
          ];
      before_in = λ x t h.
          let w = was x t h in
          elim (cases_eq x (after c)) [
            | inl e ↦
                let same : s ≡ t = same_Some s t (sym (r.after_in c s here) ∙ ap slot (sym e) ∙ w.1) in
                let other : before c ≢ c = λ own. not_own r c s here high (sym (ap after own) ∙ r.forth c s here) in
                ap slot' (ap before' e ∙ at_after) ∙ stays (before c) other ∙ r.before_in c s here ∙ ap Some same
            | inr ne ↦
                let other : before x ≢ c = λ e. ne (sym (r.forth x t w.1) ∙ ap after e) in
                ap slot' (before_else x ne) ∙ stays (before x) other ∙ r.before_in x t w.1
          ];
      back = λ x t h.
          let w = was x t h in
          elim (cases_eq x (before c)) [
            | inl e ↦ ap before' (ap after' e ∙ at_before) ∙ at_after ∙ sym e
            | inr ne ↦
                let other : after x ≢ after c = λ e. w.0 (after_once r x c t s w.1 here e) in
                ap before' (after_else x ne) ∙ before_else (after x) other ∙ r.back x t w.1
          ];
      forth = λ x t h.
          let w = was x t h in
          elim (cases_eq x (after c)) [
            | inl e ↦ ap after' (ap before' e ∙ at_after) ∙ at_before ∙ sym e
            | inr ne ↦
                let other : before x ≢ before c = λ e. w.0 (before_once r x c t s w.1 here e) in
                ap after' (before_else x ne) ∙ after_else (before x) other ∙ r.forth x t w.1
          ];
      rises = λ x t h up.
          let w = was x t h in
          elim (cases_eq x (after c)) [
            | inl e ↦
                let first : r.rank (before c) < r.rank c = r.rises c s here high in
                let step : r.rank (before x) < r.rank x = r.rises x t w.1 up in
                let mid : r.rank (before x) ≡ r.rank c = ap r.rank (ap before e ∙ r.back c s here) in
                let new : r.rank (before' x) ≡ r.rank (before c) = ap r.rank (ap before' e ∙ at_after) in
                omega arith
            | inr ne ↦
                let step : r.rank (before x) < r.rank x = r.rises x t w.1 up in
                let new : r.rank (before' x) ≡ r.rank (before x) = ap r.rank (before_else x ne) in
                omega arith
          ];
    }

  module _ (c s : ℕ) (head : slot s ≡ Some s) (below : s < n) (high : n ≤ c) (fresh : slot c ≡ None)
      (at_last : after' (before s) ≡ c) (at_new : after' c ≡ s) (after_else : (x : ℕ) → x ≢ before s → x ≢ c → after' x ≡ after x)
      (at_head : before' s ≡ c) (before_new : before' c ≡ before s) (before_else : (x : ℕ) → x ≢ s → x ≢ c → before' x ≡ before x)
      (stands : slot' c ≡ Some s) (stays : (x : ℕ) → x ≢ c → slot' x ≡ slot x) where
    not_new : (x t : ℕ) → slot x ≡ Some t → x ≢ c
    not_new x t h e = none-some t (sym fresh ∙ ap slot (sym e) ∙ h)

    kept : (x t : ℕ) → slot x ≡ Some t → slot' x ≡ Some t
    kept x t h = stays x (not_new x t h) ∙ h

    last_in : slot (before s) ≡ Some s
    last_in = r.before_in s s head

    new_rank : ℕ → ℕ
    new_rank x = if x == c then suc (r.rank (before s)) else r.rank x

    new_rank-new : new_rank c ≡ suc (r.rank (before s))
    unfolding new_rank
    new_rank-new = grind (arith, nat_tests)

    new_rank-else : (x : ℕ) → x ≢ c → new_rank x ≡ r.rank x
    unfolding new_rank
    new_rank-else x ne = grind (arith, nat_tests)

    -- a cell is put in between the last of a ring and its head
    pub put_in : AreRings n slot' after' before'
    put_in = record {
      rank = new_rank;
      after_in = λ x t h. elim (cases_eq x c) [
        | inl e ↦
            let same : s ≡ t = same_Some s t (sym stands ∙ ap slot' (sym e) ∙ h) in
            ap slot' (ap after' e ∙ at_new) ∙ kept s s head ∙ ap Some same
        | inr new ↦
            let w : slot x ≡ Some t = sym (stays x new) ∙ h in
            elim (cases_eq x (before s)) [
              | inl e ↦
                  let same : s ≡ t = same_Some s t (sym last_in ∙ ap slot (sym e) ∙ w) in
                  ap slot' (ap after' e ∙ at_last) ∙ stands ∙ ap Some same
              | inr ne ↦ ap slot' (after_else x ne new) ∙ kept (after x) t (r.after_in x t w)
            ]
      ];
      before_in = λ x t h. elim (cases_eq x c) [
        | inl e ↦
            let same : s ≡ t = same_Some s t (sym stands ∙ ap slot' (sym e) ∙ h) in
            ap slot' (ap before' e ∙ before_new) ∙ kept (before s) s last_in ∙ ap Some same
        | inr new ↦
            let w : slot x ≡ Some t = sym (stays x new) ∙ h in
            elim (cases_eq x s) [
              | inl e ↦
                  let same : s ≡ t = same_Some s t (sym head ∙ ap slot (sym e) ∙ w) in
                  ap slot' (ap before' e ∙ at_head) ∙ stands ∙ ap Some same
              | inr ne ↦ ap slot' (before_else x ne new) ∙ kept (before x) t (r.before_in x t w)
            ]
      ];
      back = λ x t h. elim (cases_eq x c) [
        | inl e ↦ ap before' (ap after' e ∙ at_new) ∙ at_head ∙ sym e
        | inr new ↦
            let w : slot x ≡ Some t = sym (stays x new) ∙ h in
            elim (cases_eq x (before s)) [
              | inl e ↦ ap before' (ap after' e ∙ at_last) ∙ before_new ∙ sym e
              | inr ne ↦
                  let other : after x ≢ s = λ e. ne (sym (r.back x t w) ∙ ap before e) in
                  ap before' (after_else x ne new) ∙ before_else (after x) other (not_new (after x) t (r.after_in x t w)) ∙ r.back x t w
            ]
      ];
      forth = λ x t h. elim (cases_eq x c) [
        | inl e ↦ ap after' (ap before' e ∙ before_new) ∙ at_last ∙ sym e
        | inr new ↦
            let w : slot x ≡ Some t = sym (stays x new) ∙ h in
            elim (cases_eq x s) [
              | inl e ↦ ap after' (ap before' e ∙ at_head) ∙ at_new ∙ sym e
              | inr ne ↦
                  let other : before x ≢ before s = λ e. ne (before_once r x s t s w head e) in
                  ap after' (before_else x ne new) ∙ after_else (before x) other (not_new (before x) t (r.before_in x t w)) ∙ r.forth x t w
            ]
      ];
      rises = λ x t h up. elim (cases_eq x c) [
        | inl e ↦
            let new : new_rank x ≡ suc (r.rank (before s)) = ap new_rank e ∙ new_rank-new in
            let old : new_rank (before' x) ≡ r.rank (before s) = ap new_rank (ap before' e ∙ before_new) ∙ new_rank-else (before s) (not_new (before s) s last_in) in
            omega arith
        | inr new ↦
            let w : slot x ≡ Some t = sym (stays x new) ∙ h in
            let ne : x ≢ s = λ e. omega arith in
            let less : r.rank (before x) < r.rank x = r.rises x t w up in
            let here : new_rank x ≡ r.rank x = new_rank-else x new in
            let there : new_rank (before' x) ≡ r.rank (before x) = ap new_rank (before_else x ne new) ∙ new_rank-else (before x) (not_new (before x) t (r.before_in x t w)) in
            omega arith
      ];
    }
