-- What each call of a book leaves and answers, by the calls that the book stands for.
use Rattle.std.proofs.Common.{◌+◌, ◌≡◌, ℕ, ◌≤◌, Bool, true, false, not, ◌&&◌, ◌==◌, nat_lt, nat_le, cond, Some, None, List, [], ◌∷◌, ◌++◌, map, filter, length, IsPermutation, refl, sym, ap, ap₂, ◌∙◌, subst, arith, append-nil}
use Rattle.std.specs.List.{All, list_any}
use Rattle.std.proofs.lemmas.Bool.{le-ltb, ltb-false, and_right}
use Rattle.std.proofs.lemmas.List.Elements.{All-filter, All-head, All-tail, filter-append}
use Rattle.std.proofs.lemmas.List.Sorted.{IsPermutation-cons, IsPermutation-trans, IsPermutation-append_comm, IsPermutation-map, list_any-IsPermutation, length_permutation, All-permutation}
use Rattle.downtime_book.specs.declared.downtime.Downtime.{Downtime}
use Rattle.downtime_book.specs.declared.kind.Kind.{Kind}
use Rattle.downtime_book.specs.declared.kind.Kind.TheVariants.{Fixed, Flexible}
use Rattle.downtime_book.specs.Downtime.{kind_until, kind_is_in_effect, until, is_live, is_in_effect, kind_is_waiting, is_triggered_by, triggered_at, after_result}
use Rattle.downtime_book.specs.Calls.{Call, added, resulted, cancelled, downtime_of, downtimes, latest, is_live_in}
use Rattle.downtime_book.specs.Contents.{Contents, StandsFor, live_downtimes}
use Rattle.downtime_book.specs.Firsts.{first_of, starts}
use Rattle.downtime_book.specs.Naming.{named, least, number_of}
use Rattle.downtime_book.proofs.Lists.{filter_within, filter_twice, filter_map_within, list_any_within, list_any_filter, map_same, IsPermutation-filter}
use Rattle.downtime_book.proofs.LookBack.{downtimes-added, latest-added, downtimes-resulted, latest-resulted, downtimes-cancelled, latest-cancelled}
use Rattle.downtime_book.proofs.NamingLemmas.{least-permutation, least_within}
use Rattle.downtime_book.proofs.Starts.{IsPrompt, all_prompt_later, downtimes_prompt, least_starts}

-- ---- what is past stays past
is_live-later : (l m : ℕ) (d : Downtime) → l ≤ m → is_live l d ≡ false → is_live m d ≡ false
is_live-later l m d h e = le-ltb m (until d) (omega (arith, ltb-false l (until d) e))

abbrev pub contents : ℕ → List Downtime → Contents
contents m ds = record { latest = m; downtimes = ds }

IsPermutation-same : (xs ys zs : List Downtime) → xs ≡ ys → IsPermutation ys zs → IsPermutation xs zs
IsPermutation-same xs ys zs e h = subst (λ (l : List Downtime). IsPermutation l zs) (sym e) h

-- ---- a cancel
pub StandsFor-cancelled : (book : Contents) (h : List Call) (n m : ℕ) (kept : List Downtime) → StandsFor book h → book.latest ≤ m → kept ≡ filter (is_live m) (filter (λ d. not (d.number == n)) book.downtimes) → StandsFor (contents m kept) (h ++ cancelled n m ∷ [])
StandsFor-cancelled book h n m kept s l e =
    let u : latest h ≤ m = omega (arith, s.latest) in
    let keep : Downtime → Bool = λ d. not (d.number == n) in
    let both : Downtime → Bool = λ d. keep d && is_live m d in
    let past : (d : Downtime) → is_live (latest h) d ≡ false → both d ≡ false = λ d f. and_right (keep d) (is_live m d) (is_live-later (latest h) m d u f) in
    let same : filter (is_live m) (downtimes (h ++ cancelled n m ∷ [])) ≡ filter both (live_downtimes h) =
    ap (filter (is_live m)) (downtimes-cancelled n m h) ∙ filter_twice (is_live m) keep (downtimes h) ∙ sym (filter_within both (is_live (latest h)) past (downtimes h)) in
    let at : live_downtimes (h ++ cancelled n m ∷ []) ≡ filter both (live_downtimes h) = ap (λ (k : ℕ). filter (is_live k) (downtimes (h ++ cancelled n m ∷ []))) (latest-cancelled n m h u) ∙ same in
    let moved : IsPermutation (filter both (live_downtimes h)) kept = subst (λ (l : List Downtime). IsPermutation (filter both (live_downtimes h)) l) (sym (e ∙ filter_twice (is_live m) keep book.downtimes)) (IsPermutation-filter both _ _ s.downtimes) in
    record { latest = sym (latest-cancelled n m h u); downtimes = IsPermutation-same _ _ _ at moved }

-- ---- a downtime
module _ (book : Contents) (h : List Call) (n s e : ℕ) (f : Bool) (d : ℕ) where
  live_downtimes-added : live_downtimes (h ++ added n s e f d ∷ []) ≡ live_downtimes h ++ cond (is_live (latest h) (downtime_of n s e f d [])) (downtime_of n s e f d [] ∷ []) []
  live_downtimes-added =
      let x = downtime_of n s e f d [] in
      ap (λ (k : ℕ). filter (is_live k) (downtimes (h ++ added n s e f d ∷ []))) (latest-added n s e f d h) ∙ ap (filter (is_live (latest h))) (downtimes-added n s e f d h) ∙ filter-append (is_live (latest h)) (downtimes h) (x ∷ [])

  pub StandsFor-added : (kept : List Downtime) → StandsFor book h → is_live book.latest (downtime_of n s e f d []) ≡ true → IsPermutation (downtime_of n s e f d [] ∷ book.downtimes) kept → StandsFor (contents book.latest kept) (h ++ added n s e f d ∷ [])
  StandsFor-added kept st live put =
      let x = downtime_of n s e f d [] in
      let here : is_live (latest h) x ≡ true = subst (λ (k : ℕ). is_live k x ≡ true) st.latest live in
      let same : live_downtimes (h ++ added n s e f d ∷ []) ≡ live_downtimes h ++ x ∷ [] = live_downtimes-added ∙ ap (λ (b : Bool). live_downtimes h ++ cond b (x ∷ []) []) here in
      let front : IsPermutation (live_downtimes h ++ x ∷ []) (x ∷ book.downtimes) = IsPermutation-trans _ _ _ (IsPermutation-append_comm (live_downtimes h) (x ∷ [])) (IsPermutation-cons x _ _ st.downtimes) in
      let moved : IsPermutation (live_downtimes h ++ x ∷ []) kept = IsPermutation-trans _ _ _ front put in
      record { latest = st.latest ∙ sym (latest-added n s e f d h); downtimes = IsPermutation-same _ _ _ same moved }

  pub StandsFor-added_past : StandsFor book h → is_live book.latest (downtime_of n s e f d []) ≡ false → StandsFor book (h ++ added n s e f d ∷ [])
  StandsFor-added_past st past =
      let x = downtime_of n s e f d [] in
      let gone : is_live (latest h) x ≡ false = subst (λ (k : ℕ). is_live k x ≡ false) st.latest past in
      let same : live_downtimes (h ++ added n s e f d ∷ []) ≡ live_downtimes h = live_downtimes-added ∙ ap (λ (b : Bool). live_downtimes h ++ cond b (x ∷ []) []) gone ∙ append-nil (live_downtimes h) in
      record { latest = st.latest ∙ sym (latest-added n s e f d h); downtimes = IsPermutation-same _ _ _ same st.downtimes }

-- ---- a result
not_awaiting-by : (k : Kind) (e m : ℕ) (a : Bool) → nat_lt m (kind_until k e) ≡ false → (kind_is_waiting k && a && nat_lt m e) ≡ false
not_awaiting-by Fixed e m a h = refl
not_awaiting-by (Flexible d (Some t)) e m a h = refl
not_awaiting-by (Flexible d None) e m a h = and_right (true && a) (nat_lt m e) h

-- a result doesn't change one that is past
after_result-past : (m : ℕ) (p : Bool) (d : Downtime) → is_live m d ≡ false → after_result m p d ≡ d
after_result-past m p d h =
    ap (λ (b : Bool). cond b (record d { kind = triggered_at m d.kind }) d) (and_right p (is_triggered_by m d) (not_awaiting-by d.kind d.«end» m (nat_le d.start m) h))

-- nor one that doesn't wait for a problem then
pub after_result-no : (m : ℕ) (p : Bool) (d : Downtime) → is_triggered_by m d ≡ false → after_result m p d ≡ d
after_result-no m p d h = ap (λ (b : Bool). cond b (record d { kind = triggered_at m d.kind }) d) (and_right p (is_triggered_by m d) h)

past-after_result : (m : ℕ) (p : Bool) (d : Downtime) → is_live m d ≡ false → is_live m (after_result m p d) ≡ false
past-after_result m p d h = subst (λ (x : Downtime). is_live m x ≡ false) (sym (after_result-past m p d h)) h

past-in_effect-by : (k : Kind) (s e m : ℕ) → nat_lt m (kind_until k e) ≡ false → kind_is_in_effect k s e m ≡ false
past-in_effect-by Fixed s e m h = and_right (nat_le s m) (nat_lt m e) h
past-in_effect-by (Flexible d (Some t)) s e m h = and_right (nat_le t m) (nat_lt m (t + d)) h
past-in_effect-by (Flexible d None) s e m h = refl

past-in_effect : (m : ℕ) (d : Downtime) → is_live m d ≡ false → is_in_effect m d ≡ false
past-in_effect m d h = past-in_effect-by d.kind d.start d.«end» m h

after_result-ok : (m : ℕ) (d : Downtime) → after_result m false d ≡ d
after_result-ok m d = refl

pub map-after_ok : (m : ℕ) (ds : List Downtime) → map (after_result m false) ds ≡ ds
map-after_ok m ds = map_same (after_result m false) (after_result-ok m) ds

pub StandsFor-resulted : (book : Contents) (h : List Call) (m : ℕ) (p : Bool) (kept : List Downtime) → StandsFor book h → book.latest ≤ m → IsPermutation (filter (is_live m) (map (after_result m p) book.downtimes)) kept → StandsFor (contents m kept) (h ++ resulted m p ∷ [])
StandsFor-resulted book h m p kept s l kept_is =
    let u : latest h ≤ m = omega (arith, s.latest) in
    let f = after_result m p in
    let past : (d : Downtime) → is_live (latest h) d ≡ false → is_live m (f d) ≡ false = λ d g. past-after_result m p d (is_live-later (latest h) m d u g) in
    let same : filter (is_live m) (downtimes (h ++ resulted m p ∷ [])) ≡ filter (is_live m) (map f (live_downtimes h)) =
    ap (filter (is_live m)) (downtimes-resulted m p h) ∙ sym (filter_map_within (is_live m) f (is_live (latest h)) past (downtimes h)) in
    let at : live_downtimes (h ++ resulted m p ∷ []) ≡ filter (is_live m) (map f (live_downtimes h)) = ap (λ (k : ℕ). filter (is_live k) (downtimes (h ++ resulted m p ∷ []))) (latest-resulted m p h u) ∙ same in
    let moved : IsPermutation (filter (is_live m) (map f (live_downtimes h))) kept = IsPermutation-trans _ _ _ (IsPermutation-filter (is_live m) _ _ (IsPermutation-map f _ _ s.downtimes)) kept_is in
    record { latest = sym (latest-resulted m p h u); downtimes = IsPermutation-same _ _ _ at moved }

-- what a result leaves of those that are live, once what is past is gone
pub met_live : (m : ℕ) (p : Bool) (ds : List Downtime) → filter (is_live m) (map (after_result m p) ds) ≡ filter (is_live m) (map (after_result m p) (filter (is_live m) ds))
met_live m p ds = sym (filter_map_within (is_live m) (after_result m p) (is_live m) (past-after_result m p) ds)

map_none : (m : ℕ) (p : Bool) (ds : List Downtime) → All (λ d. is_triggered_by m d ≡ false) ds → map (after_result m p) ds ≡ ds
map_none m p [] h = refl
map_none m p (d ∷ ds) h =
    let T : Downtime → Type 0 = λ d. is_triggered_by m d ≡ false in
    ap₂ (λ (x : Downtime) (l : List Downtime). x ∷ l) (after_result-no m p d (All-head T d ds h)) (map_none m p ds (All-tail T d ds h))

pub met_none : (m : ℕ) (p : Bool) (ds : List Downtime) → All (λ d. is_triggered_by m d ≡ false) (filter (is_live m) ds) → filter (is_live m) (map (after_result m p) ds) ≡ filter (is_live m) ds
met_none m p ds h =
    met_live m p ds ∙ ap (filter (is_live m)) (map_none m p (filter (is_live m) ds) h) ∙ filter_within (is_live m) (is_live m) (λ d e. e) ds

pub met_ok : (m : ℕ) (ds : List Downtime) → filter (is_live m) (map (after_result m false) ds) ≡ filter (is_live m) ds
met_ok m ds = ap (filter (is_live m)) (map-after_ok m ds)

-- ---- the answers
module _ (book : Contents) (h : List Call) (m : ℕ) (s : StandsFor book h) (l : book.latest ≤ m) where
  up : latest h ≤ m
  up = omega (arith, s.latest)

  pub is_live_in-kept : (n : ℕ) → list_any (λ d. d.number == n) (filter (is_live m) book.downtimes) ≡ is_live_in h n m
  is_live_in-kept n =
      let test : Downtime → Bool = λ d. (d.number == n) && is_live m d in
      let past : (d : Downtime) → is_live (latest h) d ≡ false → test d ≡ false = λ d f. and_right (d.number == n) (is_live m d) (is_live-later (latest h) m d up f) in
      list_any_filter (λ d. d.number == n) (is_live m) book.downtimes ∙ sym (list_any-IsPermutation test (live_downtimes h) book.downtimes s.downtimes) ∙ list_any_within test (is_live (latest h)) past (downtimes h)

  least-kept : (p : Bool) → least m (map (after_result m p) (filter (is_live m) book.downtimes)) ≡ least m (map (after_result m p) (downtimes h))
  least-kept p =
      let f = after_result m p in
      let out : (d : Downtime) → is_live m d ≡ false → is_in_effect m (f d) ≡ false = λ d g. past-in_effect m (f d) (past-after_result m p d g) in
      let out_before : (d : Downtime) → is_live (latest h) d ≡ false → is_in_effect m (f d) ≡ false = λ d g. out d (is_live-later (latest h) m d up g) in
      least_within m f (is_live m) out book.downtimes ∙ sym (least-permutation m _ _ (IsPermutation-map f _ _ s.downtimes)) ∙ least_within m f (is_live (latest h)) out_before (downtimes h)

  prompt : All (IsPrompt m) book.downtimes
  prompt =
      All-permutation (IsPrompt m) (live_downtimes h) book.downtimes s.downtimes (All-filter (is_live (latest h)) (IsPrompt m) (downtimes h) (all_prompt_later (latest h) m (downtimes h) up (downtimes_prompt h)))

  pub named-after : (p : Bool) → number_of (first_of (starts m p) (filter (is_live m) book.downtimes)) ≡ named m (downtimes (h ++ resulted m p ∷ []))
  named-after p = ap number_of (sym (least_starts m p book.downtimes prompt) ∙ least-kept p ∙ ap (least m) (sym (downtimes-resulted m p h)))

  pub named-kept : number_of (first_of (starts m false) (filter (is_live m) book.downtimes)) ≡ named m (downtimes h)
  named-kept = ap number_of (sym (least_starts m false book.downtimes prompt) ∙ least-kept false ∙ ap (least m) (map-after_ok m (downtimes h)))

pub length-kept : (book : Contents) (h : List Call) → StandsFor book h → length book.downtimes ≡ length (live_downtimes h)
length-kept book h s = length_permutation (live_downtimes h) book.downtimes s.downtimes
