-- Events, both ways.
use Rattle.std.proofs.Common.{◌≡◌, ℕ, ◌^◌, ◌<◌, ◌≤◌, Bool, true, false, cond, List, [], ◌∷◌, ◌++◌, drop, codes, refl, sym, ap, ◌∙◌, subst, append_assoc, Some, None, lit<}
use Rattle.std.specs.Fmt.{decimal}
use Rattle.site_model.specs.declared.event.Event.{Event}
use Rattle.site_model.specs.declared.event.Event.TheVariants as event
use Rattle.site_text.proofs.DecimalLaws.{IsStop}
use Rattle.site_text.specs.Entries.{event_text, length_text, on_text, IsInForm}
use Rattle.site_text.specs.ScriptReading.{begins}
use Rattle.log_text.specs.EntryReading.{result_at, ack_at, with_length, down_at, undown_at, checks_at, notes_at, check_at, event_at, last_moment}
use Rattle.log_text.specs.EntryTwo.{without_texts, FitsEvent}
use Rattle.log_text.specs.Fronts.{◌>>=◌, behind, flag_at, number_at, bounded_at}
use Rattle.log_text.proofs.FieldLaws.{bind_some, bind_then, done, some_is, word_or, behind_sound, flag_sound, number_sound, number_complete, bounded_sound, bounded_complete}

-- what an event that is read without its texts meets
pub record IsRead (e : Event) : Type 0 where
  pub in_form : IsInForm e
  pub bare : without_texts e ≡ e

abbrev Spelled : List ℕ → Event × List ℕ → Type 0
Spelled bs y = (bs ≡ event_text y.0 ++ y.1) × IsRead y.0

-- an event whose word stands first
abbrev After : List ℕ → List ℕ → Event × List ℕ → Type 0
After word bs y = Spelled (word ++ bs) y

result_sound : (passive : Bool) (bs : List ℕ) (y : Event × List ℕ) → result_at passive bs ≡ Some y → After (cond passive (codes "passive ") (codes "result ")) bs y
unfolding result_at
result_sound passive bs y e =
    let status = bind_some (bounded_at 3 bs) (λ status. Some (event.Result status.0 passive [] [], status.1)) y e in
    let word : List ℕ = cond passive (codes "passive ") (codes "result ") in
    let spelled = bounded_sound 3 bs status.0 status.1 in
    subst (After word bs) (some_is (event.Result status.0.0 passive [] [], status.0.1) y status.2)
    (ap (λ xs. word ++ xs) spelled.0 ∙ sym (append_assoc word (decimal status.0.0) status.0.1), record { in_form = spelled.1; bare = refl })

result_complete : (passive : Bool) (status : ℕ) (rest : List ℕ) → status ≤ 3 → IsStop rest → result_at passive (decimal status ++ rest) ≡ Some (event.Result status passive [] [], rest)
unfolding result_at
result_complete passive status rest low stop = rw (bounded_complete 3 status rest (lit< tt) low stop) refl

ack_sound : (bs : List ℕ) (y : Event × List ℕ) → ack_at bs ≡ Some y → After (codes "ack ") bs y
unfolding ack_at
ack_sound bs y e =
    let sticky = bind_some (flag_at (codes "sticky ") (codes "normal ") bs) (λ sticky. flag_at (codes "notify") (codes "quiet") sticky.1 >>= λ notify. Some (event.Ack sticky.0 notify.0, notify.1)) y e in
    let notify = bind_some (flag_at (codes "notify") (codes "quiet") sticky.0.1) (λ notify. Some (event.Ack sticky.0.0 notify.0, notify.1)) y sticky.2 in
    let whole : bs ≡ cond sticky.0.0 (codes "sticky ") (codes "normal ") ++ (cond notify.0.0 (codes "notify") (codes "quiet") ++ notify.0.1) =
    flag_sound (codes "sticky ") (codes "normal ") bs sticky.0 sticky.1 ∙ ap (λ xs. cond sticky.0.0 (codes "sticky ") (codes "normal ") ++ xs) (flag_sound (codes "notify") (codes "quiet") sticky.0.1 notify.0 notify.1) in
    subst (After (codes "ack ") bs) (some_is (event.Ack sticky.0.0 notify.0.0, notify.0.1) y notify.2)
    (ap (λ xs. codes "ack " ++ xs) whole ∙ flags sticky.0.0 notify.0.0 notify.0.1, record { in_form = tt; bare = refl })
  where
    flags : (s n : Bool) (rest : List ℕ) → codes "ack " ++ (cond s (codes "sticky ") (codes "normal ") ++ (cond n (codes "notify") (codes "quiet") ++ rest)) ≡ event_text (event.Ack s n) ++ rest
    flags true true rest = refl
    flags true false rest = refl
    flags false true rest = refl
    flags false false rest = refl

ack_complete : (s n : Bool) (rest : List ℕ) → event_at (event_text (event.Ack s n) ++ rest) ≡ Some (event.Ack s n, rest)
unfolding event_at ack_at
ack_complete true true rest = refl
ack_complete true false rest = refl
ack_complete false true rest = refl
ack_complete false false rest = refl

-- a downtime of a span whose length was read
abbrev HasLength : ℕ → ℕ → Bool → List ℕ → Event × List ℕ → Type 0
HasLength start end fixed bs y = (duration : ℕ) × (y.0 ≡ event.Down start end fixed duration) × (cond fixed (codes " fixed") (codes " flexible ") ++ bs ≡ length_text fixed duration ++ y.1) × IsInForm (event.Down start end fixed duration)

length_sound : (start end : ℕ) (fixed : Bool) (bs : List ℕ) (y : Event × List ℕ) → with_length start end fixed bs ≡ Some y → HasLength start end fixed bs y
length_sound start end true bs y e = subst (HasLength start end true bs) (some_is (event.Down start end true 0, bs) y e) (0, refl, refl, refl)
length_sound start end false bs y e =
    let duration = bind_some (number_at bs) (λ duration. Some (event.Down start end false duration.0, duration.1)) y e in
    let spelled = number_sound bs duration.0 duration.1 in
    subst (HasLength start end false bs)
    (some_is (event.Down start end false duration.0.0, duration.0.1) y duration.2)
    (duration.0.0, refl, ap (λ xs. codes " flexible " ++ xs) spelled.0 ∙ sym (append_assoc (codes " flexible ") (decimal duration.0.0) duration.0.1), tt)

down_split : (s n : ℕ) (fixed : Bool) (d : ℕ) (rest : List ℕ) → event_text (event.Down s n fixed d) ++ rest ≡ codes "down " ++ (decimal s ++ (codes " " ++ (decimal n ++ (length_text fixed d ++ rest))))
down_split s n fixed d rest =
    ap (λ xs. codes "down " ++ xs) (append_assoc (decimal s) (32 ∷ (decimal n ++ length_text fixed d)) rest ∙ ap (λ xs. decimal s ++ (codes " " ++ xs)) (append_assoc (decimal n) (length_text fixed d) rest))

down_made : (bs : List ℕ) (s n : ℕ) (fixed : Bool) (more : List ℕ) (y : Event × List ℕ) → bs ≡ decimal s ++ (codes " " ++ (decimal n ++ (cond fixed (codes " fixed") (codes " flexible ") ++ more))) → HasLength s n fixed more y → After (codes "down ") bs y
down_made bs s n fixed more y whole has =
    let made : Event = event.Down s n fixed has.0 in
    let spelled : codes "down " ++ bs ≡ event_text made ++ y.1 =
    ap (λ xs. codes "down " ++ xs) (whole ∙ ap (λ xs. decimal s ++ (codes " " ++ (decimal n ++ xs))) has.2) ∙ sym (down_split s n fixed has.0 y.1) in
    (spelled ∙ ap (λ v. event_text v ++ y.1) (sym has.1), subst IsRead (sym has.1) (record { in_form = has.3; bare = refl }))

down_sound : (bs : List ℕ) (y : Event × List ℕ) → down_at bs ≡ Some y → After (codes "down ") bs y
unfolding down_at
down_sound bs y e =
    bind_then (bounded_at last_moment bs) (λ start. behind (codes " ") start.1 >>= λ rest. bounded_at last_moment rest >>= λ stop. flag_at (codes " fixed") (codes " flexible ") stop.1 >>= λ fixed. with_length start.0 stop.0 fixed.0 fixed.1) y
    (λ start h-start e-start.
    bind_then (behind (codes " ") start.1) (λ rest. bounded_at last_moment rest >>= λ stop. flag_at (codes " fixed") (codes " flexible ") stop.1 >>= λ fixed. with_length start.0 stop.0 fixed.0 fixed.1) y
    (λ rest h-rest e-rest.
    bind_then (bounded_at last_moment rest) (λ stop. flag_at (codes " fixed") (codes " flexible ") stop.1 >>= λ fixed. with_length start.0 stop.0 fixed.0 fixed.1) y
    (λ stop h-stop e-stop.
    bind_then (flag_at (codes " fixed") (codes " flexible ") stop.1) (λ fixed. with_length start.0 stop.0 fixed.0 fixed.1) y
    (λ fixed h-fixed e-fixed.
    down_made bs start.0 stop.0 fixed.0 fixed.1 y ((bounded_sound last_moment bs start h-start).0 ∙ ap (λ xs. decimal start.0 ++ xs) (behind_sound (codes " ") start.1 rest h-rest ∙ ap (λ xs. codes " " ++ xs) ((bounded_sound last_moment rest stop h-stop).0 ∙ ap (λ xs. decimal stop.0 ++ xs) (flag_sound (codes " fixed") (codes " flexible ") stop.1 fixed h-fixed)))) (length_sound start.0 stop.0 fixed.0 fixed.1 y e-fixed)) e-stop) e-rest) e-start) e

down_complete : (s n : ℕ) (fixed : Bool) (d : ℕ) (rest : List ℕ) → IsInForm (event.Down s n fixed d) → FitsEvent (event.Down s n fixed d) → IsStop rest → down_at (decimal s ++ (codes " " ++ (decimal n ++ (length_text fixed d ++ rest)))) ≡ Some (event.Down s n fixed d, rest)
unfolding down_at
down_complete s n true d rest form fits stop =
    let one = bounded_complete last_moment s (codes " " ++ (decimal n ++ (length_text true d ++ rest))) (lit< tt) fits.0 refl in
    let two = bounded_complete last_moment n (length_text true d ++ rest) (lit< tt) fits.1 refl in
    rw (one, two) (ap (λ k. Some (event.Down s n true k, rest)) (sym form))
down_complete s n false d rest form fits stop =
    let one = bounded_complete last_moment s (codes " " ++ (decimal n ++ (length_text false d ++ rest))) (lit< tt) fits.0 refl in
    let two = bounded_complete last_moment n (length_text false d ++ rest) (lit< tt) fits.1 refl in
    let three = number_complete d rest fits.2 stop in
    rw (one, two, append_assoc (codes " flexible ") (decimal d) rest, three) refl

undown_sound : (bs : List ℕ) (y : Event × List ℕ) → undown_at bs ≡ Some y → After (codes "undown ") bs y
unfolding undown_at
undown_sound bs y e =
    let number = bind_some (number_at bs) (λ number. Some (event.Undown number.0, number.1)) y e in
    subst (After (codes "undown ") bs) (some_is (event.Undown number.0.0, number.0.1) y number.2)
    (ap (λ xs. codes "undown " ++ xs) (number_sound bs number.0 number.1).0, record { in_form = tt; bare = refl })

undown_complete : (n : ℕ) (rest : List ℕ) → n < 2 ^ 64 → IsStop rest → undown_at (decimal n ++ rest) ≡ Some (event.Undown n, rest)
unfolding undown_at
undown_complete n rest small stop = rw (number_complete n rest small stop) refl

on_split : (word : List ℕ) (on : Bool) (rest : List ℕ) → (word ++ on_text on) ++ rest ≡ word ++ (cond on (codes "on") (codes "off") ++ rest)
on_split word true rest = append_assoc word (codes "on") rest
on_split word false rest = append_assoc word (codes "off") rest

checks_sound : (bs : List ℕ) (y : Event × List ℕ) → checks_at bs ≡ Some y → After (codes "checks ") bs y
unfolding checks_at
checks_sound bs y e =
    let on = bind_some (flag_at (codes "on") (codes "off") bs) (λ on. Some (event.Checks on.0, on.1)) y e in
    subst (After (codes "checks ") bs) (some_is (event.Checks on.0.0, on.0.1) y on.2)
    (ap (λ xs. codes "checks " ++ xs) (flag_sound (codes "on") (codes "off") bs on.0 on.1) ∙ sym (on_split (codes "checks ") on.0.0 on.0.1), record { in_form = tt; bare = refl })

notes_sound : (bs : List ℕ) (y : Event × List ℕ) → notes_at bs ≡ Some y → After (codes "notes ") bs y
unfolding notes_at
notes_sound bs y e =
    let on = bind_some (flag_at (codes "on") (codes "off") bs) (λ on. Some (event.Notes on.0, on.1)) y e in
    subst (After (codes "notes ") bs) (some_is (event.Notes on.0.0, on.0.1) y on.2)
    (ap (λ xs. codes "notes " ++ xs) (flag_sound (codes "on") (codes "off") bs on.0 on.1) ∙ sym (on_split (codes "notes ") on.0.0 on.0.1), record { in_form = tt; bare = refl })

check_sound : (forced : Bool) (bs : List ℕ) (y : Event × List ℕ) → check_at forced bs ≡ Some y → After (cond forced (codes "forced ") (codes "check ")) bs y
unfolding check_at
check_sound forced bs y e =
    let moment = bind_some (bounded_at last_moment bs) (λ moment. Some (event.Check moment.0 forced, moment.1)) y e in
    let word : List ℕ = cond forced (codes "forced ") (codes "check ") in
    subst (After word bs) (some_is (event.Check moment.0.0 forced, moment.0.1) y moment.2)
    (ap (λ xs. word ++ xs) (bounded_sound last_moment bs moment.0 moment.1).0 ∙ sym (append_assoc word (decimal moment.0.0) moment.0.1), record { in_form = tt; bare = refl })

check_complete : (forced : Bool) (m : ℕ) (rest : List ℕ) → m ≤ last_moment → IsStop rest → check_at forced (decimal m ++ rest) ≡ Some (event.Check m forced, rest)
unfolding check_at
check_complete forced m rest low stop = rw (bounded_complete last_moment m rest (lit< tt) low stop) refl

at_front : (word bs rest : List ℕ) (y : Event × List ℕ) → bs ≡ word ++ rest → After word rest y → Spelled bs y
at_front word bs rest y front h = (front ∙ h.0, h.1)

-- an event that is a word alone
bare : (word : List ℕ) (v : Event) (rest : List ℕ) (y : Event × List ℕ) → event_text v ≡ word → without_texts v ≡ v → IsInForm v → done (v, rest) ≡ Some y → After word rest y
bare word v rest y is same form e = subst (After word rest) (some_is (v, rest) y e) (ap (λ w. w ++ rest) (sym is), record { in_form = form; bare = same })

others10 : (bs : List ℕ) (y : Event × List ℕ) → cond (begins (codes "forced ") bs) (check_at true (drop 7 bs)) (None) ≡ Some y → Spelled bs y
others10 bs y e = word_or (codes "forced ") bs (check_at true (drop 7 bs)) (None) y (λ front h. at_front (codes "forced ") bs (drop 7 bs) y front (check_sound true (drop 7 bs) y h)) (λ h. absurd cc) e

others9 : (bs : List ℕ) (y : Event × List ℕ) → cond (begins (codes "check ") bs) (check_at false (drop 6 bs)) (cond (begins (codes "forced ") bs) (check_at true (drop 7 bs)) (None)) ≡ Some y → Spelled bs y
others9 bs y e = word_or (codes "check ") bs (check_at false (drop 6 bs)) (cond (begins (codes "forced ") bs) (check_at true (drop 7 bs)) (None)) y (λ front h. at_front (codes "check ") bs (drop 6 bs) y front (check_sound false (drop 6 bs) y h)) (λ h. others10 bs y h) e

others8 : (bs : List ℕ) (y : Event × List ℕ) → cond (begins (codes "notes ") bs) (notes_at (drop 6 bs)) (cond (begins (codes "check ") bs) (check_at false (drop 6 bs)) (cond (begins (codes "forced ") bs) (check_at true (drop 7 bs)) (None))) ≡ Some y → Spelled bs y
others8 bs y e = word_or (codes "notes ") bs (notes_at (drop 6 bs)) (cond (begins (codes "check ") bs) (check_at false (drop 6 bs)) (cond (begins (codes "forced ") bs) (check_at true (drop 7 bs)) (None))) y (λ front h. at_front (codes "notes ") bs (drop 6 bs) y front (notes_sound (drop 6 bs) y h)) (λ h. others9 bs y h) e

others7 : (bs : List ℕ) (y : Event × List ℕ) → cond (begins (codes "checks ") bs) (checks_at (drop 7 bs)) (cond (begins (codes "notes ") bs) (notes_at (drop 6 bs)) (cond (begins (codes "check ") bs) (check_at false (drop 6 bs)) (cond (begins (codes "forced ") bs) (check_at true (drop 7 bs)) (None)))) ≡ Some y → Spelled bs y
others7 bs y e = word_or (codes "checks ") bs (checks_at (drop 7 bs)) (cond (begins (codes "notes ") bs) (notes_at (drop 6 bs)) (cond (begins (codes "check ") bs) (check_at false (drop 6 bs)) (cond (begins (codes "forced ") bs) (check_at true (drop 7 bs)) (None)))) y (λ front h. at_front (codes "checks ") bs (drop 7 bs) y front (checks_sound (drop 7 bs) y h)) (λ h. others8 bs y h) e

others6 : (bs : List ℕ) (y : Event × List ℕ) → cond (begins (codes "undown ") bs) (undown_at (drop 7 bs)) (cond (begins (codes "checks ") bs) (checks_at (drop 7 bs)) (cond (begins (codes "notes ") bs) (notes_at (drop 6 bs)) (cond (begins (codes "check ") bs) (check_at false (drop 6 bs)) (cond (begins (codes "forced ") bs) (check_at true (drop 7 bs)) (None))))) ≡ Some y → Spelled bs y
others6 bs y e = word_or (codes "undown ") bs (undown_at (drop 7 bs)) (cond (begins (codes "checks ") bs) (checks_at (drop 7 bs)) (cond (begins (codes "notes ") bs) (notes_at (drop 6 bs)) (cond (begins (codes "check ") bs) (check_at false (drop 6 bs)) (cond (begins (codes "forced ") bs) (check_at true (drop 7 bs)) (None))))) y (λ front h. at_front (codes "undown ") bs (drop 7 bs) y front (undown_sound (drop 7 bs) y h)) (λ h. others7 bs y h) e

others5 : (bs : List ℕ) (y : Event × List ℕ) → cond (begins (codes "down ") bs) (down_at (drop 5 bs)) (cond (begins (codes "undown ") bs) (undown_at (drop 7 bs)) (cond (begins (codes "checks ") bs) (checks_at (drop 7 bs)) (cond (begins (codes "notes ") bs) (notes_at (drop 6 bs)) (cond (begins (codes "check ") bs) (check_at false (drop 6 bs)) (cond (begins (codes "forced ") bs) (check_at true (drop 7 bs)) (None)))))) ≡ Some y → Spelled bs y
others5 bs y e = word_or (codes "down ") bs (down_at (drop 5 bs)) (cond (begins (codes "undown ") bs) (undown_at (drop 7 bs)) (cond (begins (codes "checks ") bs) (checks_at (drop 7 bs)) (cond (begins (codes "notes ") bs) (notes_at (drop 6 bs)) (cond (begins (codes "check ") bs) (check_at false (drop 6 bs)) (cond (begins (codes "forced ") bs) (check_at true (drop 7 bs)) (None)))))) y (λ front h. at_front (codes "down ") bs (drop 5 bs) y front (down_sound (drop 5 bs) y h)) (λ h. others6 bs y h) e

others4 : (bs : List ℕ) (y : Event × List ℕ) → cond (begins (codes "unack") bs) (Some (event.Unack, drop 5 bs)) (cond (begins (codes "down ") bs) (down_at (drop 5 bs)) (cond (begins (codes "undown ") bs) (undown_at (drop 7 bs)) (cond (begins (codes "checks ") bs) (checks_at (drop 7 bs)) (cond (begins (codes "notes ") bs) (notes_at (drop 6 bs)) (cond (begins (codes "check ") bs) (check_at false (drop 6 bs)) (cond (begins (codes "forced ") bs) (check_at true (drop 7 bs)) (None))))))) ≡ Some y → Spelled bs y
others4 bs y e = word_or (codes "unack") bs (Some (event.Unack, drop 5 bs)) (cond (begins (codes "down ") bs) (down_at (drop 5 bs)) (cond (begins (codes "undown ") bs) (undown_at (drop 7 bs)) (cond (begins (codes "checks ") bs) (checks_at (drop 7 bs)) (cond (begins (codes "notes ") bs) (notes_at (drop 6 bs)) (cond (begins (codes "check ") bs) (check_at false (drop 6 bs)) (cond (begins (codes "forced ") bs) (check_at true (drop 7 bs)) (None))))))) y (λ front h. at_front (codes "unack") bs (drop 5 bs) y front (bare (codes "unack") event.Unack (drop 5 bs) y refl refl tt h)) (λ h. others5 bs y h) e

others3 : (bs : List ℕ) (y : Event × List ℕ) → cond (begins (codes "ack ") bs) (ack_at (drop 4 bs)) (cond (begins (codes "unack") bs) (Some (event.Unack, drop 5 bs)) (cond (begins (codes "down ") bs) (down_at (drop 5 bs)) (cond (begins (codes "undown ") bs) (undown_at (drop 7 bs)) (cond (begins (codes "checks ") bs) (checks_at (drop 7 bs)) (cond (begins (codes "notes ") bs) (notes_at (drop 6 bs)) (cond (begins (codes "check ") bs) (check_at false (drop 6 bs)) (cond (begins (codes "forced ") bs) (check_at true (drop 7 bs)) (None)))))))) ≡ Some y → Spelled bs y
others3 bs y e = word_or (codes "ack ") bs (ack_at (drop 4 bs)) (cond (begins (codes "unack") bs) (Some (event.Unack, drop 5 bs)) (cond (begins (codes "down ") bs) (down_at (drop 5 bs)) (cond (begins (codes "undown ") bs) (undown_at (drop 7 bs)) (cond (begins (codes "checks ") bs) (checks_at (drop 7 bs)) (cond (begins (codes "notes ") bs) (notes_at (drop 6 bs)) (cond (begins (codes "check ") bs) (check_at false (drop 6 bs)) (cond (begins (codes "forced ") bs) (check_at true (drop 7 bs)) (None)))))))) y (λ front h. at_front (codes "ack ") bs (drop 4 bs) y front (ack_sound (drop 4 bs) y h)) (λ h. others4 bs y h) e

others2 : (bs : List ℕ) (y : Event × List ℕ) → cond (begins (codes "tick") bs) (Some (event.Tick, drop 4 bs)) (cond (begins (codes "ack ") bs) (ack_at (drop 4 bs)) (cond (begins (codes "unack") bs) (Some (event.Unack, drop 5 bs)) (cond (begins (codes "down ") bs) (down_at (drop 5 bs)) (cond (begins (codes "undown ") bs) (undown_at (drop 7 bs)) (cond (begins (codes "checks ") bs) (checks_at (drop 7 bs)) (cond (begins (codes "notes ") bs) (notes_at (drop 6 bs)) (cond (begins (codes "check ") bs) (check_at false (drop 6 bs)) (cond (begins (codes "forced ") bs) (check_at true (drop 7 bs)) (None))))))))) ≡ Some y → Spelled bs y
others2 bs y e = word_or (codes "tick") bs (Some (event.Tick, drop 4 bs)) (cond (begins (codes "ack ") bs) (ack_at (drop 4 bs)) (cond (begins (codes "unack") bs) (Some (event.Unack, drop 5 bs)) (cond (begins (codes "down ") bs) (down_at (drop 5 bs)) (cond (begins (codes "undown ") bs) (undown_at (drop 7 bs)) (cond (begins (codes "checks ") bs) (checks_at (drop 7 bs)) (cond (begins (codes "notes ") bs) (notes_at (drop 6 bs)) (cond (begins (codes "check ") bs) (check_at false (drop 6 bs)) (cond (begins (codes "forced ") bs) (check_at true (drop 7 bs)) (None))))))))) y (λ front h. at_front (codes "tick") bs (drop 4 bs) y front (bare (codes "tick") event.Tick (drop 4 bs) y refl refl tt h)) (λ h. others3 bs y h) e

others1 : (bs : List ℕ) (y : Event × List ℕ) → cond (begins (codes "passive ") bs) (result_at true (drop 8 bs)) (cond (begins (codes "tick") bs) (Some (event.Tick, drop 4 bs)) (cond (begins (codes "ack ") bs) (ack_at (drop 4 bs)) (cond (begins (codes "unack") bs) (Some (event.Unack, drop 5 bs)) (cond (begins (codes "down ") bs) (down_at (drop 5 bs)) (cond (begins (codes "undown ") bs) (undown_at (drop 7 bs)) (cond (begins (codes "checks ") bs) (checks_at (drop 7 bs)) (cond (begins (codes "notes ") bs) (notes_at (drop 6 bs)) (cond (begins (codes "check ") bs) (check_at false (drop 6 bs)) (cond (begins (codes "forced ") bs) (check_at true (drop 7 bs)) (None)))))))))) ≡ Some y → Spelled bs y
others1 bs y e = word_or (codes "passive ") bs (result_at true (drop 8 bs)) (cond (begins (codes "tick") bs) (Some (event.Tick, drop 4 bs)) (cond (begins (codes "ack ") bs) (ack_at (drop 4 bs)) (cond (begins (codes "unack") bs) (Some (event.Unack, drop 5 bs)) (cond (begins (codes "down ") bs) (down_at (drop 5 bs)) (cond (begins (codes "undown ") bs) (undown_at (drop 7 bs)) (cond (begins (codes "checks ") bs) (checks_at (drop 7 bs)) (cond (begins (codes "notes ") bs) (notes_at (drop 6 bs)) (cond (begins (codes "check ") bs) (check_at false (drop 6 bs)) (cond (begins (codes "forced ") bs) (check_at true (drop 7 bs)) (None)))))))))) y (λ front h. at_front (codes "passive ") bs (drop 8 bs) y front (result_sound true (drop 8 bs) y h)) (λ h. others2 bs y h) e

others0 : (bs : List ℕ) (y : Event × List ℕ) → cond (begins (codes "result ") bs) (result_at false (drop 7 bs)) (cond (begins (codes "passive ") bs) (result_at true (drop 8 bs)) (cond (begins (codes "tick") bs) (Some (event.Tick, drop 4 bs)) (cond (begins (codes "ack ") bs) (ack_at (drop 4 bs)) (cond (begins (codes "unack") bs) (Some (event.Unack, drop 5 bs)) (cond (begins (codes "down ") bs) (down_at (drop 5 bs)) (cond (begins (codes "undown ") bs) (undown_at (drop 7 bs)) (cond (begins (codes "checks ") bs) (checks_at (drop 7 bs)) (cond (begins (codes "notes ") bs) (notes_at (drop 6 bs)) (cond (begins (codes "check ") bs) (check_at false (drop 6 bs)) (cond (begins (codes "forced ") bs) (check_at true (drop 7 bs)) (None))))))))))) ≡ Some y → Spelled bs y
others0 bs y e = word_or (codes "result ") bs (result_at false (drop 7 bs)) (cond (begins (codes "passive ") bs) (result_at true (drop 8 bs)) (cond (begins (codes "tick") bs) (Some (event.Tick, drop 4 bs)) (cond (begins (codes "ack ") bs) (ack_at (drop 4 bs)) (cond (begins (codes "unack") bs) (Some (event.Unack, drop 5 bs)) (cond (begins (codes "down ") bs) (down_at (drop 5 bs)) (cond (begins (codes "undown ") bs) (undown_at (drop 7 bs)) (cond (begins (codes "checks ") bs) (checks_at (drop 7 bs)) (cond (begins (codes "notes ") bs) (notes_at (drop 6 bs)) (cond (begins (codes "check ") bs) (check_at false (drop 6 bs)) (cond (begins (codes "forced ") bs) (check_at true (drop 7 bs)) (None))))))))))) y (λ front h. at_front (codes "result ") bs (drop 7 bs) y front (result_sound false (drop 7 bs) y h)) (λ h. others1 bs y h) e

pub event_sound : (bs : List ℕ) (y : Event × List ℕ) → event_at bs ≡ Some y → Spelled bs y
unfolding event_at
event_sound bs y e = others0 bs y e

pub event_complete : (v : Event) (rest : List ℕ) → IsInForm v → FitsEvent v → IsStop rest → event_at (event_text v ++ rest) ≡ Some (without_texts v, rest)
unfolding event_at checks_at notes_at
event_complete (event.Result status true output perf) rest form fits stop = result_complete true status rest form stop
event_complete (event.Result status false output perf) rest form fits stop = result_complete false status rest form stop
event_complete event.Tick rest form fits stop = refl
event_complete (event.Ack sticky notify) rest form fits stop = ack_complete sticky notify rest
event_complete event.Unack rest form fits stop = refl
event_complete (event.Down start end fixed duration) rest form fits stop =
    ap (λ xs. down_at xs) (append_assoc (decimal start) (32 ∷ (decimal end ++ length_text fixed duration)) rest ∙ ap (λ xs. decimal start ++ (codes " " ++ xs)) (append_assoc (decimal end) (length_text fixed duration) rest))
    ∙ down_complete start end fixed duration rest form fits stop
event_complete (event.Undown number) rest form fits stop = undown_complete number rest fits stop
event_complete (event.Checks true) rest form fits stop = refl
event_complete (event.Checks false) rest form fits stop = refl
event_complete (event.Notes true) rest form fits stop = refl
event_complete (event.Notes false) rest form fits stop = refl
event_complete (event.Check moment true) rest form fits stop = check_complete true moment rest fits stop
event_complete (event.Check moment false) rest form fits stop = check_complete false moment rest fits stop
