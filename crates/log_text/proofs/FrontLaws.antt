-- How lines begin, what an event made of a checkable, and what was seen, both ways.
use Rattle.std.proofs.Common.{◌≡◌, ℕ, ◌^◌, ◌<◌, ◌≤◌, Bool, true, false, cond, List, [], ◌∷◌, ◌++◌, length, drop, codes, refl, sym, ap, ◌∙◌, subst, append_assoc, arith, Some, lit<}
use Rattle.std.proofs.lemmas.List.{length-append}
use Rattle.std.specs.Fmt.{decimal}
use Rattle.std.specs.List.{AllByRecursion}
use Rattle.std.specs.Str.{IsUtf8}
use Rattle.site_model.specs.PlainSite.{PlainSite, full_names}
use Rattle.site_model.specs.Sound.{AreDistinct}
use Rattle.site_model.specs.declared.event.Event.{Event}
use Rattle.site_model.specs.declared.sight.Sight.{Sight}
use Rattle.site_model.specs.declared.state.State.{State}
use Rattle.site_model.specs.declared.state.State.TheVariants as state
use Rattle.site_text.proofs.DecimalLaws.{IsStop}
use Rattle.site_text.specs.Entries.{event_text, head_text, name_text, sight_text, state_text, status_text, type_text, void_text, IsInForm}
use Rattle.log_text.specs.EntryReading.{effect_at, event_at, head_at, last_moment, last_word, sight_at, state_at, taken_at}
use Rattle.log_text.specs.EntryTwo.{without_texts, FitsEvent}
use Rattle.log_text.specs.Fronts.{◌>>=◌, behind, flag_at, name_at, number_at, bounded_at}
use Rattle.log_text.specs.SiteNames.{PlainNames, names_of}
use Rattle.log_text.specs.declared.effects.Effect.{Effect}
use Rattle.log_text.specs.declared.heads.Head.{Head}
use Rattle.log_text.proofs.EventLaws.{IsRead, event_sound, event_complete}
use Rattle.log_text.proofs.FieldLaws.{bind_then, some_is, word_or, behind_sound, flag_sound, spelled_sound, number_sound, number_complete, bounded_sound, bounded_complete, name_sound, name_complete}
use Rattle.log_text.proofs.PartLaws.{Spells}

-- How lines begin.

abbrev pub start_of : List (List ℕ) → Head → List ℕ
start_of names h = codes "entry " ++ (name_text names h.checkable ++ 32 ∷ head_text h.number h.caller h.moment)

start_split : (names : List (List ℕ)) (k n c m : ℕ) (rest : List ℕ)
    → (codes "entry " ++ (name_text names k ++ 32 ∷ head_text n c m)) ++ rest ≡ codes "entry " ++ (name_text names k ++ (codes " " ++ (decimal n ++ (codes " by " ++ (decimal c ++ (codes " at " ++ (decimal m ++ (codes ": " ++ rest))))))))
start_split names k n c m rest =
    append_assoc (codes "entry ") (name_text names k ++ (codes " " ++ (decimal n ++ (codes " by " ++ (decimal c ++ (codes " at " ++ (decimal m ++ codes ": "))))))) rest ∙ ap (λ xs. codes "entry " ++ xs) (append_assoc (name_text names k) (codes " " ++ (decimal n ++ (codes " by " ++ (decimal c ++ (codes " at " ++ (decimal m ++ codes ": ")))))) rest ∙ ap (λ xs. name_text names k ++ xs) (append_assoc (codes " ") (decimal n ++ (codes " by " ++ (decimal c ++ (codes " at " ++ (decimal m ++ codes ": "))))) rest ∙ ap (λ xs. codes " " ++ xs) (append_assoc (decimal n) (codes " by " ++ (decimal c ++ (codes " at " ++ (decimal m ++ codes ": ")))) rest ∙ ap (λ xs. decimal n ++ xs) (append_assoc (codes " by ") (decimal c ++ (codes " at " ++ (decimal m ++ codes ": "))) rest ∙ ap (λ xs. codes " by " ++ xs) (append_assoc (decimal c) (codes " at " ++ (decimal m ++ codes ": ")) rest ∙ ap (λ xs. decimal c ++ xs) (append_assoc (codes " at ") (decimal m ++ codes ": ") rest ∙ ap (λ xs. codes " at " ++ xs) (append_assoc (decimal m) (codes ": ") rest)))))))

pub head_sound : (names : PlainNames) (bs : List ℕ) (y : Head × List ℕ) → head_at names bs ≡ Some y → (bs ≡ start_of names.checkables y.0 ++ y.1) × (y.0.checkable < length names.checkables)
unfolding head_at
head_sound names bs y e =
    bind_then (behind (codes "entry ") bs) (λ a. name_at names.checkables a >>= λ k. behind (codes " ") k.1 >>= λ b. number_at b >>= λ n. behind (codes " by ") n.1 >>= λ c. bounded_at last_word c >>= λ w. behind (codes " at ") w.1 >>= λ d. bounded_at last_moment d >>= λ m. behind (codes ": ") m.1 >>= λ f. Some (made k.0 n.0 w.0 m.0, f)) y
    (λ a h-a e-a.
    bind_then (name_at names.checkables a) (λ k. behind (codes " ") k.1 >>= λ b. number_at b >>= λ n. behind (codes " by ") n.1 >>= λ c. bounded_at last_word c >>= λ w. behind (codes " at ") w.1 >>= λ d. bounded_at last_moment d >>= λ m. behind (codes ": ") m.1 >>= λ f. Some (made k.0 n.0 w.0 m.0, f)) y
    (λ k h-k e-k.
    bind_then (behind (codes " ") k.1) (λ b. number_at b >>= λ n. behind (codes " by ") n.1 >>= λ c. bounded_at last_word c >>= λ w. behind (codes " at ") w.1 >>= λ d. bounded_at last_moment d >>= λ m. behind (codes ": ") m.1 >>= λ f. Some (made k.0 n.0 w.0 m.0, f)) y
    (λ b h-b e-b.
    bind_then (number_at b) (λ n. behind (codes " by ") n.1 >>= λ c. bounded_at last_word c >>= λ w. behind (codes " at ") w.1 >>= λ d. bounded_at last_moment d >>= λ m. behind (codes ": ") m.1 >>= λ f. Some (made k.0 n.0 w.0 m.0, f)) y
    (λ n h-n e-n.
    bind_then (behind (codes " by ") n.1) (λ c. bounded_at last_word c >>= λ w. behind (codes " at ") w.1 >>= λ d. bounded_at last_moment d >>= λ m. behind (codes ": ") m.1 >>= λ f. Some (made k.0 n.0 w.0 m.0, f)) y
    (λ c h-c e-c.
    bind_then (bounded_at last_word c) (λ w. behind (codes " at ") w.1 >>= λ d. bounded_at last_moment d >>= λ m. behind (codes ": ") m.1 >>= λ f. Some (made k.0 n.0 w.0 m.0, f)) y
    (λ w h-w e-w.
    bind_then (behind (codes " at ") w.1) (λ d. bounded_at last_moment d >>= λ m. behind (codes ": ") m.1 >>= λ f. Some (made k.0 n.0 w.0 m.0, f)) y
    (λ d h-d e-d.
    bind_then (bounded_at last_moment d) (λ m. behind (codes ": ") m.1 >>= λ f. Some (made k.0 n.0 w.0 m.0, f)) y
    (λ m h-m e-m.
    bind_then (behind (codes ": ") m.1) (λ f. Some (made k.0 n.0 w.0 m.0, f)) y
    (λ f h-f e-f.
    subst (λ (z : Head × List ℕ). (bs ≡ start_of names.checkables z.0 ++ z.1) × (z.0.checkable < length names.checkables)) (some_is (made k.0 n.0 w.0 m.0, f) y e-f)
    ((behind_sound (codes "entry ") bs a h-a ∙ ap (λ xs. codes "entry " ++ xs) ((name_sound names.checkables a k h-k).0 ∙ ap (λ xs. name_text names.checkables k.0 ++ xs) (behind_sound (codes " ") k.1 b h-b ∙ ap (λ xs. codes " " ++ xs) ((number_sound b n h-n).0 ∙ ap (λ xs. decimal n.0 ++ xs) (behind_sound (codes " by ") n.1 c h-c ∙ ap (λ xs. codes " by " ++ xs) ((bounded_sound last_word c w h-w).0 ∙ ap (λ xs. decimal w.0 ++ xs) (behind_sound (codes " at ") w.1 d h-d ∙ ap (λ xs. codes " at " ++ xs) ((bounded_sound last_moment d m h-m).0 ∙ ap (λ xs. decimal m.0 ++ xs) (behind_sound (codes ": ") m.1 f h-f))))))))) ∙ sym (start_split names.checkables k.0 n.0 w.0 m.0 f), (name_sound names.checkables a k h-k).1)) e-m) e-d) e-w) e-c) e-n) e-b) e-k) e-a) e
  where
    made : ℕ → ℕ → ℕ → ℕ → Head
    made k n c m = record { checkable = k; number = n; caller = c; moment = m }

pub head_complete : (names : PlainNames) (h : Head) (rest : List ℕ) → AreDistinct names.checkables → AllByRecursion IsUtf8 names.checkables → h.checkable < length names.checkables → h.number < 2 ^ 64 → h.caller ≤ last_word → h.moment ≤ last_moment
    → head_at names (start_of names.checkables h ++ rest) ≡ Some (h, rest)
unfolding head_at
head_complete names h rest apart texts inside number caller moment =
    let r4 : List ℕ = codes ": " ++ rest in
    let r3 : List ℕ = codes " at " ++ (decimal h.moment ++ r4) in
    let r2 : List ℕ = codes " by " ++ (decimal h.caller ++ r3) in
    let r1 : List ℕ = codes " " ++ (decimal h.number ++ r2) in
    ap (head_at names) (start_split names.checkables h.checkable h.number h.caller h.moment rest)
    ∙ rw (name_complete names.checkables h.checkable r1 apart texts inside, number_complete h.number r2 number refl, bounded_complete last_word h.caller r3 (lit< tt) caller refl, bounded_complete last_moment h.moment r4 (lit< tt) moment refl) refl

-- Effects.

abbrev pub effect_of : Effect → List ℕ
effect_of x = event_text x.event ++ (void_text x.taken ++ (codes " -> " ++ status_text x.state x.hard x.attempt))

taken_sound : (bs : List ℕ) (y : Bool × List ℕ) → taken_at bs ≡ Some y → bs ≡ void_text y.0 ++ y.1
taken_sound bs y e =
    word_or (codes " void") bs (Some (false, drop 5 bs)) (Some (true, bs)) y
    (λ front h. subst (λ (z : Bool × List ℕ). bs ≡ void_text z.0 ++ z.1) (some_is (false, drop 5 bs) y h) front)
    (λ h. subst (λ (z : Bool × List ℕ). bs ≡ void_text z.0 ++ z.1) (some_is (true, bs) y h) refl)
    e

taken_complete : (t : Bool) (rest : List ℕ) → taken_at (void_text t ++ (codes " -> " ++ rest)) ≡ Some (t, codes " -> " ++ rest)
taken_complete true rest = refl
taken_complete false rest = refl

state_complete : (s : State) (rest : List ℕ) → state_at (state_text s ++ rest) ≡ Some (s, rest)
unfolding state_at
state_complete state.Okay rest = refl
state_complete state.Warning rest = refl
state_complete state.Critical rest = refl
state_complete state.Unknown rest = refl
state_complete state.Up rest = refl
state_complete state.Down rest = refl

states : List State
states = state.Okay ∷ state.Warning ∷ state.Critical ∷ state.Unknown ∷ state.Up ∷ state.Down ∷ []

state_sound : (bs : List ℕ) (y : State × List ℕ) → state_at bs ≡ Some y → bs ≡ state_text y.0 ++ y.1
unfolding state_at states
state_sound bs y e = spelled_sound state_text states bs y e

type_split : (hard : Bool) (rest : List ℕ) → type_text hard ++ 32 ∷ rest ≡ cond hard (codes "HARD ") (codes "SOFT ") ++ rest
type_split true rest = refl
type_split false rest = refl

hard_complete : (hard : Bool) (rest : List ℕ) → flag_at (codes "HARD ") (codes "SOFT ") (cond hard (codes "HARD ") (codes "SOFT ") ++ rest) ≡ Some (hard, rest)
hard_complete true rest = refl
hard_complete false rest = refl

effect_split : (v : Event) (t : Bool) (s : State) (hard : Bool) (n : ℕ) (rest : List ℕ)
    → (event_text v ++ (void_text t ++ (codes " -> " ++ status_text s hard n))) ++ rest ≡ event_text v ++ (void_text t ++ (codes " -> " ++ (state_text s ++ (codes " " ++ (cond hard (codes "HARD ") (codes "SOFT ") ++ (decimal n ++ rest))))))
effect_split v t s hard n rest =
    append_assoc (event_text v) (void_text t ++ (codes " -> " ++ (state_text s ++ (codes " " ++ (type_text hard ++ (codes " " ++ decimal n)))))) rest ∙ ap (λ xs. event_text v ++ xs) (append_assoc (void_text t) (codes " -> " ++ (state_text s ++ (codes " " ++ (type_text hard ++ (codes " " ++ decimal n))))) rest ∙ ap (λ xs. void_text t ++ xs) (append_assoc (codes " -> ") (state_text s ++ (codes " " ++ (type_text hard ++ (codes " " ++ decimal n)))) rest ∙ ap (λ xs. codes " -> " ++ xs) (append_assoc (state_text s) (codes " " ++ (type_text hard ++ (codes " " ++ decimal n))) rest ∙ ap (λ xs. state_text s ++ xs) (append_assoc (codes " ") (type_text hard ++ (codes " " ++ decimal n)) rest ∙ ap (λ xs. codes " " ++ xs) (append_assoc (type_text hard) (codes " " ++ decimal n) rest ∙ ap (λ xs. type_text hard ++ xs) (append_assoc (codes " ") (decimal n) rest))))))
    ∙ ap (λ xs. event_text v ++ (void_text t ++ (codes " -> " ++ (state_text s ++ (codes " " ++ xs))))) (type_split hard (decimal n ++ rest))

pub effect_sound : (bs : List ℕ) (y : Effect × List ℕ) → effect_at bs ≡ Some y → (bs ≡ effect_of y.0 ++ y.1) × IsRead y.0.event
unfolding effect_at
effect_sound bs y e =
    bind_then (event_at bs) (λ v. taken_at v.1 >>= λ t. behind (codes " -> ") t.1 >>= λ a. state_at a >>= λ s. behind (codes " ") s.1 >>= λ b. flag_at (codes "HARD ") (codes "SOFT ") b >>= λ g. bounded_at last_word g.1 >>= λ n. Some (made v.0 t.0 s.0 g.0 n.0, n.1)) y
    (λ v h-v e-v.
    bind_then (taken_at v.1) (λ t. behind (codes " -> ") t.1 >>= λ a. state_at a >>= λ s. behind (codes " ") s.1 >>= λ b. flag_at (codes "HARD ") (codes "SOFT ") b >>= λ g. bounded_at last_word g.1 >>= λ n. Some (made v.0 t.0 s.0 g.0 n.0, n.1)) y
    (λ t h-t e-t.
    bind_then (behind (codes " -> ") t.1) (λ a. state_at a >>= λ s. behind (codes " ") s.1 >>= λ b. flag_at (codes "HARD ") (codes "SOFT ") b >>= λ g. bounded_at last_word g.1 >>= λ n. Some (made v.0 t.0 s.0 g.0 n.0, n.1)) y
    (λ a h-a e-a.
    bind_then (state_at a) (λ s. behind (codes " ") s.1 >>= λ b. flag_at (codes "HARD ") (codes "SOFT ") b >>= λ g. bounded_at last_word g.1 >>= λ n. Some (made v.0 t.0 s.0 g.0 n.0, n.1)) y
    (λ s h-s e-s.
    bind_then (behind (codes " ") s.1) (λ b. flag_at (codes "HARD ") (codes "SOFT ") b >>= λ g. bounded_at last_word g.1 >>= λ n. Some (made v.0 t.0 s.0 g.0 n.0, n.1)) y
    (λ b h-b e-b.
    bind_then (flag_at (codes "HARD ") (codes "SOFT ") b) (λ g. bounded_at last_word g.1 >>= λ n. Some (made v.0 t.0 s.0 g.0 n.0, n.1)) y
    (λ g h-g e-g.
    bind_then (bounded_at last_word g.1) (λ n. Some (made v.0 t.0 s.0 g.0 n.0, n.1)) y
    (λ n h-n e-n.
    subst (λ (z : Effect × List ℕ). (bs ≡ effect_of z.0 ++ z.1) × IsRead z.0.event) (some_is (made v.0 t.0 s.0 g.0 n.0, n.1) y e-n)
    (((event_sound bs v h-v).0 ∙ ap (λ xs. event_text v.0 ++ xs) (taken_sound v.1 t h-t ∙ ap (λ xs. void_text t.0 ++ xs) (behind_sound (codes " -> ") t.1 a h-a ∙ ap (λ xs. codes " -> " ++ xs) (state_sound a s h-s ∙ ap (λ xs. state_text s.0 ++ xs) (behind_sound (codes " ") s.1 b h-b ∙ ap (λ xs. codes " " ++ xs) (flag_sound (codes "HARD ") (codes "SOFT ") b g h-g ∙ ap (λ xs. cond g.0 (codes "HARD ") (codes "SOFT ") ++ xs) ((bounded_sound last_word g.1 n h-n).0))))))) ∙ sym (effect_split v.0 t.0 s.0 g.0 n.0 n.1), (event_sound bs v h-v).1)) e-g) e-b) e-s) e-a) e-t) e-v) e
  where
    made : Event → Bool → State → Bool → ℕ → Effect
    made v t s h n = record { event = v; taken = t; state = s; hard = h; attempt = n }

pub effect_complete : (v : Event) (t : Bool) (s : State) (hard : Bool) (n : ℕ) (rest : List ℕ) → IsInForm v → FitsEvent v → n ≤ last_word → IsStop rest
    → effect_at ((event_text v ++ (void_text t ++ (codes " -> " ++ status_text s hard n))) ++ rest) ≡ Some (record { event = without_texts v; taken = t; state = s; hard = hard; attempt = n }, rest)
unfolding effect_at
effect_complete v t s hard n rest form fits low stop =
    let r5 : List ℕ = decimal n ++ rest in
    let r4 : List ℕ = cond hard (codes "HARD ") (codes "SOFT ") ++ r5 in
    let r3 : List ℕ = codes " " ++ r4 in
    let r2 : List ℕ = state_text s ++ r3 in
    ap effect_at (effect_split v t s hard n rest)
    ∙ rw (event_complete v (void_text t ++ (codes " -> " ++ r2)) form fits (void_stop t r2), taken_complete t r2, state_complete s r3, hard_complete hard r5, bounded_complete last_word n rest (lit< tt) low stop) refl
  where
    void_stop : (t : Bool) (rest : List ℕ) → IsStop (void_text t ++ (codes " -> " ++ rest))
    void_stop true rest = refl
    void_stop false rest = refl

-- Sights.

sight_split : (names : List (List ℕ)) (k n : ℕ) (rest : List ℕ) → (name_text names k ++ 32 ∷ decimal n) ++ rest ≡ name_text names k ++ (codes " " ++ (decimal n ++ rest))
sight_split names k n rest =
    append_assoc (name_text names k) (codes " " ++ decimal n) rest ∙ ap (λ xs. name_text names k ++ xs) (append_assoc (codes " ") (decimal n) rest)

abbrev pub IsSightOf : PlainSite → Sight → Type 0
IsSightOf s x = (x.checkable < length (full_names s)) × (x.count < 2 ^ 64)

pub sight_sound : (s : PlainSite) (bs : List ℕ) (y : Sight × List ℕ) → sight_at (names_of s) bs ≡ Some y → (bs ≡ sight_text s y.0 ++ y.1) × IsSightOf s y.0
unfolding sight_at
sight_sound s bs y e =
    bind_then (name_at (full_names s) bs) (λ k. behind (codes " ") k.1 >>= λ a. number_at a >>= λ n. Some (made k.0 n.0, n.1)) y
    (λ k h-k e-k.
    bind_then (behind (codes " ") k.1) (λ a. number_at a >>= λ n. Some (made k.0 n.0, n.1)) y
    (λ a h-a e-a.
    bind_then (number_at a) (λ n. Some (made k.0 n.0, n.1)) y
    (λ n h-n e-n.
    subst (λ (z : Sight × List ℕ). (bs ≡ sight_text s z.0 ++ z.1) × IsSightOf s z.0) (some_is (made k.0 n.0, n.1) y e-n)
    (((name_sound (full_names s) bs k h-k).0 ∙ ap (λ xs. name_text (full_names s) k.0 ++ xs) (behind_sound (codes " ") k.1 a h-a ∙ ap (λ xs. codes " " ++ xs) ((number_sound a n h-n).0))) ∙ sym (sight_split (full_names s) k.0 n.0 n.1), ((name_sound (full_names s) bs k h-k).1, (number_sound a n h-n).1))) e-a) e-k) e
  where
    made : ℕ → ℕ → Sight
    made k n = record { checkable = k; count = n }

pub sights_spelled : (s : PlainSite) → AreDistinct (full_names s) → AllByRecursion IsUtf8 (full_names s) → Spells (sight_text s) (sight_at (names_of s)) (IsSightOf s) IsStop
unfolding sight_at
sights_spelled s apart texts = record {
  sound = sight_sound s;
  complete = λ x rest valid stop.
      ap (sight_at (names_of s)) (sight_split (full_names s) x.checkable x.count rest)
      ∙ rw (name_complete (full_names s) x.checkable (codes " " ++ (decimal x.count ++ rest)) apart texts valid.0, number_complete x.count rest valid.1 stop) refl;
  some = λ x. omega (arith, length-append (name_text (full_names s) x.checkable) (32 ∷ decimal x.count));
  no_dash = λ x rest. refl;
  before_comma = λ rest. refl;
}
