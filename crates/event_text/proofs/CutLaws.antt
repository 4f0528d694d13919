-- A text is cut at the first mark, both ways.
use Rattle.std.proofs.Common.{◌≡◌, ℕ, suc, ◌+◌, ◌<◌, ◌≤◌, ◌==◌, not, Bool, true, false, cond, List, [], ◌∷◌, ◌++◌, length, take, drop, refl, sym, ap, ap₂, ◌∙◌, subst, arith, inl, inr, MatchOption, Option, Some, None, lit<}
use Rattle.std.proofs.Math.Seq.{take-append_seam, drop-append_seam}
use Rattle.std.proofs.lemmas.Bool.{cases_lt}
use Rattle.std.proofs.lemmas.Bool.Decides.{nat_tests}
use Rattle.std.proofs.lemmas.List.{take-append-drop, length-append}
use Rattle.std.proofs.lemmas.Slice.Eq.{bytes_eq-Decides}
use Rattle.std.proofs.lemmas.Str.Pattern.{split_text_parts}
use Rattle.std.specs.List.{after_first, before_first, position_or_len}
use Rattle.std.specs.Str.{bytes_eq}
use Rattle.std.specs.Str.Pattern.{FindsText}
use denote.Ref.{Bor}
use Rattle.event_text.specs.Cuts.{IsCut, IsUncut, Cut, cut, uncut, with_first, cut_at}
use Rattle.event_text.specs.Lines.{bracket}

-- the mark stands at the front
front_is : (mark text : List ℕ) → bytes_eq mark (take (length mark) text) ≡ true → text ≡ mark ++ drop (length mark) text
front_is mark text e =
    sym (take-append-drop (length mark) text)
    ∙ ap (λ m. m ++ drop (length mark) text) (sym ((bytes_eq-Decides mark (take (length mark) text)).0 e))

front_found : (mark behind text : List ℕ) → text ≡ mark ++ behind → bytes_eq mark (take (length mark) text) ≡ true
front_found mark behind text e =
    (bytes_eq-Decides mark (take (length mark) text)).1 (sym (ap (take (length mark)) e ∙ take-append_seam mark behind))

true_false : {A : Type 0} (b : Bool) → b ≡ true → b ≡ false → A
true_false b t f = absurd (let e : true ≡ false = sym t ∙ f in cc)

-- a mark further on
tail_is : (b c : ℕ) (xs ys : List ℕ) → b ∷ xs ≡ c ∷ ys → xs ≡ ys
tail_is b c xs ys e = ap (drop 1) e

later_first : (mark bs front behind : List ℕ) (b : ℕ) → bytes_eq mark (take (length mark) (b ∷ bs)) ≡ false → IsCut mark bs front behind → (f c : List ℕ) → b ∷ bs ≡ f ++ (mark ++ c) → suc (length front) ≤ length f
later_first mark bs front behind b miss h [] c e = true_false _ (front_found mark c (b ∷ bs) e) miss
later_first mark bs front behind b miss h (x ∷ f) c e = let more : length front ≤ length f = h.first f c (tail_is b x bs (f ++ (mark ++ c)) e) in omega arith

pub cut_sound : (mark text front behind : List ℕ) → cut_at mark text ≡ cut front behind → IsCut mark text front behind
cut_sound mark [] front behind e = cc
cut_sound mark (b ∷ bs) front behind e = by (λ f c h. cut_sound mark bs f c h) (bytes_eq mark (take (length mark) (b ∷ bs))) refl (cut_at mark bs) refl e
  where
    here : bytes_eq mark (take (length mark) (b ∷ bs)) ≡ true → IsCut mark (b ∷ bs) [] (drop (length mark) (b ∷ bs))
    here hit = record { whole = front_is mark (b ∷ bs) hit; first = λ f c h. omega arith }

    there : (f c : List ℕ) → bytes_eq mark (take (length mark) (b ∷ bs)) ≡ false → IsCut mark bs f c → IsCut mark (b ∷ bs) (b ∷ f) c
    there f c miss h = record { whole = ap (λ xs. b ∷ xs) h.whole; first = later_first mark bs f c b miss h }

    by : ((f c : List ℕ) → cut_at mark bs ≡ cut f c → IsCut mark bs f c) → (t : Bool) → bytes_eq mark (take (length mark) (b ∷ bs)) ≡ t → (r : Cut) → cut_at mark bs ≡ r
        → cond t (cut [] (drop (length mark) (b ∷ bs))) (with_first b r) ≡ cut front behind → IsCut mark (b ∷ bs) front behind
    by again true hit r is e =
        let one : [] ≡ front = cc in
        let two : drop (length mark) (b ∷ bs) ≡ behind = cc in
        subst (λ f. IsCut mark (b ∷ bs) f behind) one (subst (λ c. IsCut mark (b ∷ bs) [] c) two (here hit))
    by again false miss uncut is e = cc
    by again false miss (cut f c) is e =
        let one : b ∷ f ≡ front = cc in
        let two : c ≡ behind = cc in
        subst (λ g. IsCut mark (b ∷ bs) g behind) one (subst (λ g. IsCut mark (b ∷ bs) (b ∷ f) g) two (there f c miss (again f c is)))

pub uncut_sound : (mark text : List ℕ) → 0 < length mark → cut_at mark text ≡ uncut → IsUncut mark text
uncut_sound mark [] some e = λ f c h. absurd (omega (arith, ap length h, length-append f (mark ++ c), length-append mark c))
uncut_sound mark (b ∷ bs) some e = by (λ h. uncut_sound mark bs some h) (bytes_eq mark (take (length mark) (b ∷ bs))) refl (cut_at mark bs) refl e
  where
    lacks : bytes_eq mark (take (length mark) (b ∷ bs)) ≡ false → IsUncut mark bs → IsUncut mark (b ∷ bs)
    lacks miss h [] c e = true_false _ (front_found mark c (b ∷ bs) e) miss
    lacks miss h (x ∷ f) c e = h f c (tail_is b x bs (f ++ (mark ++ c)) e)

    by : (cut_at mark bs ≡ uncut → IsUncut mark bs) → (t : Bool) → bytes_eq mark (take (length mark) (b ∷ bs)) ≡ t → (r : Cut) → cut_at mark bs ≡ r
        → cond t (cut [] (drop (length mark) (b ∷ bs))) (with_first b r) ≡ uncut → IsUncut mark (b ∷ bs)
    by again true hit r is e = cc
    by again false miss uncut is e = lacks miss (again is)
    by again false miss (cut f c) is e = cc

-- two cuts of one text are one
front_same : (xs ys us vs : List ℕ) → length xs ≡ length us → xs ++ ys ≡ us ++ vs → xs ≡ us
front_same xs ys us vs l e = sym (take-append_seam xs ys) ∙ (ap₂ take l e ∙ take-append_seam us vs)

behind_same : (xs ys us vs : List ℕ) → length xs ≡ length us → xs ++ ys ≡ us ++ vs → ys ≡ vs
behind_same xs ys us vs l e = sym (drop-append_seam xs ys) ∙ (ap₂ drop l e ∙ drop-append_seam us vs)

pub cut_once : (mark text f c front behind : List ℕ) → IsCut mark text f c → IsCut mark text front behind → cut f c ≡ cut front behind
cut_once mark text f c front behind h g =
    let same : length f ≡ length front = (let one = h.first front behind g.whole in let two = g.first f c h.whole in omega arith) in
    let whole : f ++ (mark ++ c) ≡ front ++ (mark ++ behind) = sym h.whole ∙ g.whole in
    let rest : mark ++ c ≡ mark ++ behind = behind_same f (mark ++ c) front (mark ++ behind) same whole in
    ap₂ cut (front_same f (mark ++ c) front (mark ++ behind) same whole) (behind_same mark c mark behind refl rest)

pub cut_complete : (mark text front behind : List ℕ) → 0 < length mark → IsCut mark text front behind → cut_at mark text ≡ cut front behind
cut_complete mark text front behind some h = by (cut_at mark text) refl
  where
    by : (r : Cut) → cut_at mark text ≡ r → cut_at mark text ≡ cut front behind
    by uncut e = absurd (uncut_sound mark text some e front behind h.whole)
    by (cut f c) e = e ∙ cut_once mark text f c front behind (cut_sound mark text f c e) h

pub uncut_complete : (mark text : List ℕ) → IsUncut mark text → cut_at mark text ≡ uncut
uncut_complete mark text h = by (cut_at mark text) refl
  where
    by : (r : Cut) → cut_at mark text ≡ r → cut_at mark text ≡ uncut
    by uncut e = e
    by (cut f c) e = absurd (h f c (cut_sound mark text f c e).whole)

-- `split_once` cuts so
at_length : (mark text f c : List ℕ) → text ≡ f ++ (mark ++ c) → drop (length f) text ≡ mark ++ c
at_length mark text f c e = ap (drop (length f)) e ∙ drop-append_seam f (mark ++ c)

within : (mark text f c : List ℕ) → text ≡ f ++ (mark ++ c) → length f ≤ length text
within mark text f c e = omega (arith, ap length e, length-append f (mark ++ c))

pub split_is : (mark text : List ℕ) (r : Option (Bor (List ℕ) × Bor (List ℕ))) → 0 < length mark
    → MatchOption r (FindsText mark text None) (λ x. (i : ℕ) × (j : ℕ) × FindsText mark text (Some (i, j)) × (x.0.now ≡ take i text) × (x.1.now ≡ drop j text) × (i ≤ j) × (length x.0.now ≡ i) × (length x.1.now + j ≡ length text))
    → MatchOption r (cut_at mark text ≡ uncut) (λ x. cut_at mark text ≡ cut x.0.now x.1.now)
split_is mark text None some h = uncut_complete mark text (λ f c e. h (length f) (within mark text f c e) c (at_length mark text f c e))
split_is mark text (Some x) some h = cut_complete mark text x.0.now x.1.now some (record {
  whole = split_text_parts mark text (Some x) h;
  first = λ f c e. elim (cases_lt (length f) h.0) [ inl lt ↦ absurd (h.2.0 (length f) lt c (at_length mark text f c e)) | inr le ↦ omega (arith, h.6) ];
})

-- a mark of one byte
abbrev at_byte : ℕ → List ℕ → ℕ
at_byte c text = position_or_len (λ b. b == c) text

byte_is : (b c : ℕ) (t : Bool) → (b == c) ≡ t → (bs : List ℕ) → bytes_eq (c ∷ []) (take (length (c ∷ [])) (b ∷ bs)) ≡ t
byte_is b c true e bs =
    let same : b ≡ c = grind (arith, nat_tests, e) in
    (bytes_eq-Decides (c ∷ []) (b ∷ [])).1 (ap (λ x. x ∷ []) (sym same))
byte_is b c false e bs = by (bytes_eq (c ∷ []) (b ∷ [])) refl
  where
    by : (t : Bool) → bytes_eq (c ∷ []) (b ∷ []) ≡ t → bytes_eq (c ∷ []) (b ∷ []) ≡ false
    by false h = h
    by true h =
        let same : c ∷ [] ≡ b ∷ [] = (bytes_eq-Decides (c ∷ []) (b ∷ [])).0 h in
        let other : b ≡ c = cc in
        absurd (grind (arith, nat_tests, e, other))

pub byte_uncut : (c : ℕ) (text : List ℕ) → at_byte c text ≡ length text → cut_at (c ∷ []) text ≡ uncut
byte_uncut c [] e = refl
byte_uncut c (b ∷ bs) e = by (λ h. byte_uncut c bs h) (b == c) refl e
  where
    by : (at_byte c bs ≡ length bs → cut_at (c ∷ []) bs ≡ uncut) → (t : Bool) → (b == c) ≡ t → cond (not t) (1 + at_byte c bs) 0 ≡ length (b ∷ bs) → cut_at (c ∷ []) (b ∷ bs) ≡ uncut
    by again true h e = absurd (omega (arith, e))
    by again false h e =
        ap (λ t. cond t (cut [] bs) (with_first b (cut_at (c ∷ []) bs))) (byte_is b c false h bs)
        ∙ ap (with_first b) (again (omega (arith, e)))

pub byte_cut : (c : ℕ) (text : List ℕ) → at_byte c text < length text → cut_at (c ∷ []) text ≡ cut (before_first (λ b. b == c) text) (after_first (λ b. b == c) text)
byte_cut c [] e = absurd (omega (arith, e))
byte_cut c (b ∷ bs) e = by (λ h. byte_cut c bs h) (b == c) refl e
  where
    Cuts : ℕ → Type 0
    Cuts n = cut_at (c ∷ []) (b ∷ bs) ≡ cut (take n (b ∷ bs)) (drop (n + 1) (b ∷ bs))

    by : (at_byte c bs < length bs → cut_at (c ∷ []) bs ≡ cut (before_first (λ x. x == c) bs) (after_first (λ x. x == c) bs)) → (t : Bool) → (b == c) ≡ t
        → cond (not t) (1 + at_byte c bs) 0 < length (b ∷ bs) → Cuts (cond (not t) (1 + at_byte c bs) 0)
    by again true h e = ap (λ t. cond t (cut [] bs) (with_first b (cut_at (c ∷ []) bs))) (byte_is b c true h bs)
    by again false h e =
        let next : suc (at_byte c bs) ≡ 1 + at_byte c bs = omega arith in
        let behind : suc (at_byte c bs + 1) ≡ suc (at_byte c bs) + 1 = omega arith in
        subst Cuts next
        (ap (λ t. cond t (cut [] bs) (with_first b (cut_at (c ∷ []) bs))) (byte_is b c false h bs)
        ∙ ap (with_first b) (again (omega (arith, e)))
        ∙ ap (λ n. cut (b ∷ take (at_byte c bs) bs) (drop n (b ∷ bs))) behind)

pub byte_split : (c : ℕ) (text : List ℕ) (r : Option (Bor (List ℕ) × Bor (List ℕ)))
    → MatchOption r (position_or_len (λ b. b == c) text ≡ length text) (λ x. (x.0.now ≡ before_first (λ b. b == c) text) × (x.1.now ≡ after_first (λ b. b == c) text) × (position_or_len (λ b. b == c) text < length text))
    → MatchOption r (cut_at (c ∷ []) text ≡ uncut) (λ x. cut_at (c ∷ []) text ≡ cut x.0.now x.1.now)
byte_split c text None h = byte_uncut c text h
byte_split c text (Some x) h = byte_cut c text h.2 ∙ ap₂ cut (sym h.0) (sym h.1)

-- if a blank comes after the first closing bracket, the text is cut there
pub bracket_cut : (text front behind rest : List ℕ) → cut_at (93 ∷ []) text ≡ cut front behind → behind ≡ 32 ∷ rest → cut_at bracket text ≡ cut front rest
bracket_cut text front behind rest e blank =
    let h = cut_sound (93 ∷ []) text front behind e in
    cut_complete bracket text front rest (lit< tt) (record { whole = h.whole ∙ ap (λ b. front ++ 93 ∷ b) blank; first = λ f b i. h.first f (32 ∷ b) i })

-- if there is no closing bracket, none has a blank after it
pub bracket_uncut : (text : List ℕ) → cut_at (93 ∷ []) text ≡ uncut → cut_at bracket text ≡ uncut
bracket_uncut text e = uncut_complete bracket text (λ f b i. uncut_sound (93 ∷ []) text (lit< tt) e f (32 ∷ b) i)
