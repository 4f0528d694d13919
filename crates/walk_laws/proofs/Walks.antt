-- A walk tells what is told of its inclusions in preorder.
use Rattle.std.proofs.Common.{◌≡◌, ◌+◌, ◌==◌, ℕ, zero, suc, List, [], ◌∷◌, ◌++◌, length, Bool, true, false, cond, nat_lt, slice_get, Some, refl, sym, ap, ◌∙◌, subst, arith, append-nil, true≢false}
use Rattle.std.proofs.lemmas.Bool.Decides.{nat_tests}
use Rattle.site_base.specs.declared.diag.Diag.{Diag}
use Rattle.site_base.specs.declared.diag_kind.DiagKind.TheVariants as kind
use Rattle.site_base.specs.declared.place.Place.{Place}
use Rattle.dsl_lexer.specs.Places.{start_of}
use Rattle.conf_sources.specs.Inclusions.{place_of}
use Rattle.conf_sources.specs.Reading.{Kept, in_file, kept_content}
use Rattle.conf_sources.specs.Sources.{Told, content_of, full_name, source_at, sources_of}
use Rattle.conf_sources.specs.declared.holding.Holding.{Holding}
use Rattle.conf_sources.specs.declared.holding.Holding.TheVariants.{Missing, TooLong, Broken, Whole}
use Rattle.conf_sources.specs.declared.inclusion.Inclusion.{Inclusion}
use Rattle.conf_sources.specs.declared.source.Source.{Source}
use Rattle.conf_sources.specs.declared.source.Source.TheVariants.{File}
use Rattle.site_conf.specs.Sound.{Grows}
use Rattle.site_conf.specs.Walks.{WalkState, each_inclusion, each_source, empty_state, entered, met, one_inclusion, onward_at, onward_by, or_nothing, part, part_with, settled, stays, stopped, walked, with_count, with_end, with_fault, with_length, with_number}
use Rattle.site_conf.proofs.WalkLaws.{part_is}
use Rattle.walk_laws.specs.Visits.{Visit, below, fault_at, faults_of, holding_faults, if_whole, index_of, kept_in, of_inclusions, root_faults, told_of, visit, visits, visits_at, visits_in, visits_of}
use Rattle.walk_laws.proofs.Known.{IsMet, Knows, grows_on, inclusions_at, index_is, is_met, knows_nothing, name_at, no_growth, of_append}
use Rattle.walk_laws.proofs.Tallies.{Tally, run, run_append, run_ended, run_told, tally_of, visited}

-- A state after another, in which what is told since is told of these visits. Which these are is said by the files that are met in the end.
record Goes (all : Told) (vs : List Source → List Visit) (s t : WalkState) : Type 0 where
  knows : Knows all t
  grows : Grows s.sources t.sources
  tells : (met : List Source) → Grows t.sources met → tally_of t ≡ run all met (vs met) (tally_of s)

module _ (all : Told) where
  stands_still : (s : WalkState) → Knows all s → Goes all (λ met. []) s s
  stands_still s h = record { knows = h; grows = no_growth s.sources; tells = λ met g. refl }

  -- nothing is visited after the end
  at_end : (vs : List Source → List Visit) (s : WalkState) → Knows all s → s.ended ≡ true → Goes all vs s s
  at_end vs s h e = record { knows = h; grows = no_growth s.sources; tells = λ met g. sym (run_ended all met (vs met) (tally_of s) e) }

  goes_on : (vs ws : List Source → List Visit) (s t u : WalkState) → Goes all vs s t → Goes all ws t u → Goes all (λ met. vs met ++ ws met) s u
  goes_on vs ws s t u a b = record {
    knows = b.knows;
    grows = grows_on s.sources t.sources u.sources a.grows b.grows;
    tells = λ met g. b.tells met g ∙ ap (run all met (ws met)) (a.tells met (grows_on t.sources u.sources met b.grows g)) ∙ sym (run_append all met (vs met) (ws met) (tally_of s));
  }

  -- the same visits, as they are said by the files that are met in the end
  same_visits : (vs ws : List Source → List Visit) (s t : WalkState) → ((met : List Source) → Grows t.sources met → vs met ≡ ws met) → Goes all vs s t → Goes all ws s t
  same_visits vs ws s t e h = record { knows = h.knows; grows = h.grows; tells = λ met g. h.tells met g ∙ ap (λ l. run all met l (tally_of s)) (e met g) }

  -- what was before counts alike
  from_other : (vs : List Source → List Visit) (s t u : WalkState) → s.sources ≡ t.sources → tally_of s ≡ tally_of t → Goes all vs t u → Goes all vs s u
  from_other vs s t u e f h = record { knows = h.knows; grows = subst (λ l. Grows l u.sources) (sym e) h.grows; tells = λ met g. h.tells met g ∙ ap (run all met (vs met)) (sym f) }

  to_other : (vs : List Source → List Visit) (s t u : WalkState) → Knows all u → t.sources ≡ u.sources → tally_of u ≡ tally_of t → Goes all vs s t → Goes all vs s u
  to_other vs s t u k e f h = record { knows = k; grows = subst (λ l. Grows s.sources l) e h.grows; tells = λ met g. f ∙ h.tells met (subst (λ l. Grows l met) (sym e) g) }

  -- ---- one inclusion of one file

  same_tally : (a b : Tally) → a.count ≡ b.count → a.ended ≡ b.ended → a.told ≡ b.told → a ≡ b
  same_tally a b p q r = λ i. record { count = p i; ended = q i; told = r i }

  -- what is visited in a file in which so many inclusions stand already, and below it
  abbrev ThisPart : ℕ → ℕ → Source → List Source → List Visit
  ThisPart left depth x met = visits_of all met (below all met left (suc depth)) (suc depth) x

  abbrev Parts : ℕ → Type 0
  Parts left =
      (depth index : ℕ) (x : Source) (s : WalkState) → depth + left ≡ 50 → Knows all s → source_at x s.sources ≡ Some index → slice_get s.sources index ≡ Some x → Goes all (ThisPart left depth x) s (part all left index s)

  -- those of the files that are included there
  abbrev PartsBelow : ℕ → Type 0
  PartsBelow zero = Unit {0}
  PartsBelow (suc left) = Parts left

  module _ (depth : ℕ) (at : Place) (y : Source) (s : WalkState) (known : Knows all s) where
    abbrev here : Visit
    here = visit at (suc depth) y

    abbrev this : List Source → Tally → List Diag → Tally
    this met t ds = record { count = t.count + 1; ended = t.ended; told = t.told ++ ds }

    one_visit : (met : List Source) → s.ended ≡ false → nat_lt s.count 10000 ≡ true → visited all met here (tally_of s) ≡ this met (tally_of s) (faults_of all met here)
    one_visit met e f =
        ap (λ b. cond b (tally_of s) (cond (nat_lt s.count 10000) (this met (tally_of s) (faults_of all met here)) (record { count = s.count; ended = true; told = of_inclusions s.diags ++ fault_at at kind.TooManyFiles y ∷ [] }))) e
        ∙ ap (λ b. cond b (this met (tally_of s) (faults_of all met here)) (record { count = s.count; ended = true; told = of_inclusions s.diags ++ fault_at at kind.TooManyFiles y ∷ [] })) f

    -- the one that is one too many ends all
    too_many : (ws : List Source → List Visit) → s.ended ≡ false → nat_lt s.count 10000 ≡ false → Goes all (λ met. here ∷ ws met) s (with_end (with_fault at kind.TooManyFiles (full_name y) s))
    too_many ws e f = record {
      knows = record { names = known.names; holdings = known.holdings; inclusions = known.inclusions };
      grows = no_growth s.sources;
      tells = λ met g. ended_told ∙ sym (ap (run all met (ws met)) (last met) ∙ run_ended all met (ws met) ended_tally refl);
    }
      where
        ended_tally : Tally
        ended_tally = record { count = s.count; ended = true; told = of_inclusions s.diags ++ fault_at at kind.TooManyFiles y ∷ [] }

        ended_told : tally_of (with_end (with_fault at kind.TooManyFiles (full_name y) s)) ≡ record { count = s.count; ended = true; told = of_inclusions s.diags ++ fault_at at kind.TooManyFiles y ∷ [] }
        ended_told = ap (λ (ds : List Diag). record { count = s.count; ended = true; told = ds }) (of_append s.diags (fault_at at kind.TooManyFiles y ∷ []))

        last : (met : List Source) → visited all met here (tally_of s) ≡ record { count = s.count; ended = true; told = of_inclusions s.diags ++ fault_at at kind.TooManyFiles y ∷ [] }
        last met =
            ap (λ b. cond b (tally_of s) (cond (nat_lt s.count 10000) (this met (tally_of s) (faults_of all met here)) (record { count = s.count; ended = true; told = of_inclusions s.diags ++ fault_at at kind.TooManyFiles y ∷ [] }))) e
            ∙ ap (λ b. cond b (this met (tally_of s) (faults_of all met here)) (record { count = s.count; ended = true; told = of_inclusions s.diags ++ fault_at at kind.TooManyFiles y ∷ [] })) f

    -- one that is too deep
    too_deep : depth + 0 ≡ 50 → s.ended ≡ false → nat_lt s.count 10000 ≡ true → Goes all (λ met. here ∷ []) s (with_fault at kind.IncludeDepth (full_name y) (with_count s))
    too_deep deep e f = record {
      knows = record { names = known.names; holdings = known.holdings; inclusions = known.inclusions };
      grows = no_growth s.sources;
      tells = λ met g.
          ap (λ (ds : List Diag). record { count = s.count + 1; ended = s.ended; told = ds }) (of_append s.diags (fault_at at kind.IncludeDepth y ∷ []))
          ∙ sym (one_visit met e f ∙ ap (λ b. this met (tally_of s) (cond b (fault_at at kind.IncludeDepth y ∷ []) (holding_faults at y (kept_in all met y).holding))) below_all);
    }
      where
        below_all : nat_lt 50 (suc depth) ≡ true
        below_all = grind (arith, nat_tests, deep)

    module _ (left : ℕ) (shallow : depth + suc left ≡ 50) (parts : Parts left) (e : s.ended ≡ false) (f : nat_lt s.count 10000 ≡ true) where
      met_here : IsMet all at y (with_count s)
      met_here = is_met all at y (with_count s) (record { names = known.names; holdings = known.holdings; inclusions = known.inclusions })

      abbrev Holds : ℕ → Holding → Type 0
      Holds index h = (kept_content index (content_of all y)).holding ≡ h

      above : nat_lt 50 (suc depth) ≡ false
      above = grind (arith, nat_tests, shallow)

      abbrev rest : List Source → List Visit
      rest met = ThisPart left (suc depth) y met

      run_is : (met : List Source) (index : ℕ) (h : Holding) → index_of met y ≡ index → Holds index h
          → run all met (here ∷ below all met (suc left) (suc depth) y) (tally_of s) ≡ run all met (if_whole h (rest met)) (this met (tally_of s) (holding_faults at y h))
      run_is met index h same holds =
          let hold : (kept_in all met y).holding ≡ h = ap (λ k. (kept_content k (content_of all y)).holding) same ∙ holds in
          ap (run all met (below all met (suc left) (suc depth) y)) (one_visit met e f ∙ ap (λ b. this met (tally_of s) (cond b (fault_at at kind.IncludeDepth y ∷ []) (holding_faults at y (kept_in all met y).holding))) above)
          ∙ ap (λ k. run all met (if_whole k (rest met)) (this met (tally_of s) (holding_faults at y k))) hold

      -- what comes of it, by what the file holds
      by_holding : (m : IsMet all at y (with_count s)) (h : Holding) → Holds m.index h → Goes all (λ met. here ∷ below all met (suc left) (suc depth) y) s (onward_by (part all left) (settled at (full_name y) m.index (Some h) m.then))
      by_holding m Missing holds = record {
        knows = record { names = m.knows.names; holdings = m.knows.holdings; inclusions = m.knows.inclusions };
        grows = m.grows;
        tells = λ met g.
            same_tally (tally_of (with_fault at kind.NoFile (full_name y) m.then)) (this met (tally_of s) (fault_at at kind.NoFile y ∷ [])) m.count m.ended (of_append m.then.diags (fault_at at kind.NoFile y ∷ []) ∙ ap (λ l. l ++ fault_at at kind.NoFile y ∷ []) m.told)
            ∙ sym (run_is met m.index Missing (index_is m.then.sources met y m.index m.place g) holds);
      }
      by_holding m TooLong holds = record {
        knows = record { names = m.knows.names; holdings = m.knows.holdings; inclusions = m.knows.inclusions };
        grows = m.grows;
        tells = λ met g.
            same_tally (tally_of (with_fault at kind.FileTooLong (full_name y) m.then)) (this met (tally_of s) (fault_at at kind.FileTooLong y ∷ [])) m.count m.ended (of_append m.then.diags (fault_at at kind.FileTooLong y ∷ []) ∙ ap (λ l. l ++ fault_at at kind.FileTooLong y ∷ []) m.told)
            ∙ sym (run_is met m.index TooLong (index_is m.then.sources met y m.index m.place g) holds);
      }
      by_holding m Broken holds = record {
        knows = m.knows;
        grows = m.grows;
        tells = λ met g.
            same_tally (tally_of m.then) (this met (tally_of s) []) m.count m.ended (m.told ∙ sym (append-nil (of_inclusions s.diags)))
            ∙ sym (run_is met m.index Broken (index_is m.then.sources met y m.index m.place g) holds);
      }
      by_holding m Whole holds =
          let next : WalkState = with_number m.index m.then in
          let p = parts (suc depth) m.index y next deeper (record { names = m.knows.names; holdings = m.knows.holdings; inclusions = m.knows.inclusions }) m.place m.there in
          let t : WalkState = part all left m.index next in
          record {
            knows = p.knows;
            grows = grows_on s.sources m.then.sources t.sources m.grows p.grows;
            tells = λ met g.
                p.tells met g
                ∙ ap (run all met (rest met)) (same_tally (tally_of next) (this met (tally_of s) []) m.count m.ended (m.told ∙ sym (append-nil (of_inclusions s.diags))))
                ∙ sym (run_is met m.index Whole (index_is m.then.sources met y m.index m.place (grows_on m.then.sources t.sources met p.grows g)) holds);
          }
        where
          deeper : suc depth + left ≡ 50
          deeper = omega (arith, shallow)

      met_goes : Goes all (λ met. here ∷ below all met (suc left) (suc depth) y) s (onward_by (part all left) (met all at y (with_count s)))
      met_goes =
          let m = met_here in
          subst (λ x. Goes all (λ met. here ∷ below all met (suc left) (suc depth) y) s (onward_by (part all left) x)) (sym m.is) (by_holding m (kept_content m.index (content_of all y)).holding refl)

  source_goes : (left : ℕ) → PartsBelow left → (depth : ℕ) → depth + left ≡ 50 → (at : Place) (y : Source) (s : WalkState) → Knows all s
      → Goes all (λ met. visit at (suc depth) y ∷ below all met left (suc depth) y) s (onward_at all left (entered all left at y s))
  unfolding entered
  source_goes zero parts depth shallow at y s known = by s.ended refl (nat_lt s.count 10000) refl
    where
      by : (b : Bool) → s.ended ≡ b → (c : Bool) → nat_lt s.count 10000 ≡ c
          → Goes all (λ met. visit at (suc depth) y ∷ []) s (stopped (cond b (stays s) (cond c (cond (0 == 0) (stays (with_fault at kind.IncludeDepth (full_name y) (with_count s))) (met all at y (with_count s))) (stays (with_end (with_fault at kind.TooManyFiles (full_name y) s))))))
      by true e c f = at_end (λ met. visit at (suc depth) y ∷ []) s known e
      by false e true f = too_deep depth at y s known shallow e f
      by false e false f = too_many depth at y s known (λ met. []) e f
  source_goes (suc left) parts depth shallow at y s known = by s.ended refl (nat_lt s.count 10000) refl (suc left == 0) none
    where
      none : (suc left == 0) ≡ false
      none = grind (arith, nat_tests)

      by : (b : Bool) → s.ended ≡ b → (c : Bool) → nat_lt s.count 10000 ≡ c → (d : Bool) → d ≡ false
          → Goes all (λ met. visit at (suc depth) y ∷ below all met (suc left) (suc depth) y) s (onward_by (part all left) (cond b (stays s) (cond c (cond d (stays (with_fault at kind.IncludeDepth (full_name y) (with_count s))) (met all at y (with_count s))) (stays (with_end (with_fault at kind.TooManyFiles (full_name y) s))))))
      by true e c f d g = at_end (λ met. visit at (suc depth) y ∷ below all met (suc left) (suc depth) y) s known e
      by false e true f true g = absurd (true≢false g)
      by false e true f false g = met_goes depth at y s known left shallow parts e f
      by false e false f d g = too_many depth at y s known (λ met. below all met (suc left) (suc depth) y) e f

  -- ---- the inclusions of a file

  module _ (left : ℕ) (parts : PartsBelow left) (depth : ℕ) (shallow : depth + left ≡ 50) where
    sources_go : (at : Place) (ys : List Source) (s : WalkState) → Knows all s → Goes all (λ met. visits_at (below all met left (suc depth)) at (suc depth) ys) s (each_source all (onward_at all left) left at ys s)
    sources_go at [] s known = stands_still s known
    sources_go at (y ∷ ys) s known =
        let one = source_goes left parts depth shallow at y s known in
        let next : WalkState = onward_at all left (entered all left at y s) in
        goes_on (λ met. visit at (suc depth) y ∷ below all met left (suc depth) y) (λ met. visits_at (below all met left (suc depth)) at (suc depth) ys) s next (each_source all (onward_at all left) left at ys next) one (sources_go at ys next one.knows)

    inclusion_goes : (index : ℕ) (file : List ℕ) (i : Inclusion) (s : WalkState) → Knows all s
        → Goes all (λ met. visits_at (below all met left (suc depth)) (in_file index (place_of i)) (suc depth) (sources_of all file i)) s (one_inclusion all (onward_at all left) left index file i s)
    inclusion_goes index file i s known = by s.ended refl
      where
        by : (b : Bool) → s.ended ≡ b
            → Goes all (λ met. visits_at (below all met left (suc depth)) (in_file index (place_of i)) (suc depth) (sources_of all file i)) s (cond b s (each_source all (onward_at all left) left (in_file index (place_of i)) (sources_of all file i) (with_number (length (sources_of all file i)) s)))
        by true e = at_end (λ met. visits_at (below all met left (suc depth)) (in_file index (place_of i)) (suc depth) (sources_of all file i)) s known e
        by false e =
            let next : WalkState = with_number (length (sources_of all file i)) s in
            from_other (λ met. visits_at (below all met left (suc depth)) (in_file index (place_of i)) (suc depth) (sources_of all file i)) s next (each_source all (onward_at all left) left (in_file index (place_of i)) (sources_of all file i) next) refl refl
            (sources_go (in_file index (place_of i)) (sources_of all file i) next (record { names = known.names; holdings = known.holdings; inclusions = known.inclusions }))

    inclusions_go : (index : ℕ) (file : List ℕ) (is : List Inclusion) (s : WalkState) → Knows all s
        → Goes all (λ met. visits_in all (below all met left (suc depth)) (suc depth) index file is) s (each_inclusion all (onward_at all left) left index file is s)
    inclusions_go index file [] s known = stands_still s known
    inclusions_go index file (i ∷ is) s known =
        let one = inclusion_goes index file i s known in
        let next : WalkState = one_inclusion all (onward_at all left) left index file i s in
        goes_on (λ met. visits_at (below all met left (suc depth)) (in_file index (place_of i)) (suc depth) (sources_of all file i)) (λ met. visits_in all (below all met left (suc depth)) (suc depth) index file is) s next (each_inclusion all (onward_at all left) left index file is next) one (inclusions_go index file is next one.knows)

    -- the part of a file, as its name and its inclusions have it
    named_part : (index : ℕ) (file : List ℕ) (is : List Inclusion) (s : WalkState) → Knows all s
        → Goes all (λ met. visits_in all (below all met left (suc depth)) (suc depth) index file is) s (with_length (length s.order) (each_inclusion all (onward_at all left) left index file is (with_number 0 s)))
    named_part index file is s known =
        let next : WalkState = with_number 0 s in
        let t : WalkState = each_inclusion all (onward_at all left) left index file is next in
        let vs : List Source → List Visit = λ met. visits_in all (below all met left (suc depth)) (suc depth) index file is in
        let go = inclusions_go index file is next (record { names = known.names; holdings = known.holdings; inclusions = known.inclusions }) in
        to_other vs s t (with_length (length s.order) t) (record { names = go.knows.names; holdings = go.knows.holdings; inclusions = go.knows.inclusions }) refl refl (from_other vs s next t refl refl go)

    part_goes : (index : ℕ) (x : Source) (s : WalkState) → Knows all s → source_at x s.sources ≡ Some index → slice_get s.sources index ≡ Some x → Goes all (ThisPart left depth x) s (part_with all (onward_at all left) left index s)
    unfolding part_with
    part_goes index x s known place there =
        let kept : Kept = kept_content index (content_of all x) in
        let vs : List Source → List Visit = λ met. visits_in all (below all met left (suc depth)) (suc depth) index (full_name x) kept.inclusions in
        let go = named_part index (full_name x) kept.inclusions s known in
        let named = subst (λ n. Goes all vs s (with_length (length s.order) (each_inclusion all (onward_at all left) left index (or_nothing n) kept.inclusions (with_number 0 s)))) (sym (name_at all s known index x there)) go in
        let all_named = subst (λ l. Goes all vs s (with_length (length s.order) (each_inclusion all (onward_at all left) left index (or_nothing (slice_get s.names index)) (or_nothing l) (with_number 0 s)))) (sym (inclusions_at all s known index x there)) named in
        let t : WalkState = with_length (length s.order) (each_inclusion all (onward_at all left) left index (or_nothing (slice_get s.names index)) (or_nothing (slice_get s.inclusions index)) (with_number 0 s)) in
        same_visits vs (ThisPart left depth x) s t
        (λ met g. ap (λ k. visits_in all (below all met left (suc depth)) (suc depth) k (full_name x) (kept_content k (content_of all x)).inclusions) (sym (index_is s.sources met x index place (grows_on s.sources t.sources met all_named.grows g))))
        all_named

  parts_go : (left : ℕ) → Parts left
  parts_go zero depth index x s shallow known place there =
      subst (Goes all (ThisPart zero depth x) s) (sym (part_is all zero index s)) (part_goes zero tt depth shallow index x s known place there)
  parts_go (suc left) depth index x s shallow known place there =
      subst (Goes all (ThisPart (suc left) depth x) s) (sym (part_is all (suc left) index s)) (part_goes (suc left) (parts_go left) depth shallow index x s known place there)

-- ---- the walk

module _ (all : Told) (root : List ℕ) where
  abbrev head : Place
  head = start_of 0

  abbrev TellsAll : WalkState → Type 0
  TellsAll t = of_inclusions t.diags ≡ root_faults all t.sources root ++ told_of all t.sources (visits all t.sources root)

  -- what is told, by what the root holds
  told_by : (met : List Source) (index : ℕ) (h : Holding) → index_of met (File root) ≡ index → (kept_content index (content_of all (File root))).holding ≡ h
      → root_faults all met root ++ told_of all met (visits all met root) ≡ holding_faults head (File root) h ++ told_of all met (if_whole h (ThisPart all 50 0 (File root) met))
  told_by met index h same holds =
      ap (λ k. holding_faults head (File root) k ++ told_of all met (if_whole k (ThisPart all 50 0 (File root) met))) (ap (λ k. (kept_content k (content_of all (File root))).holding) same ∙ holds)

  by_root : (m : IsMet all head (File root) empty_state) (h : Holding) → (kept_content m.index (content_of all (File root))).holding ≡ h → TellsAll (onward_by (part all 50) (settled head root m.index (Some h) m.then))
  by_root m Missing holds =
      of_append m.then.diags (fault_at head kind.NoFile (File root) ∷ []) ∙ ap (λ l. l ++ fault_at head kind.NoFile (File root) ∷ []) m.told
      ∙ sym (told_by m.then.sources m.index Missing (index_is m.then.sources m.then.sources (File root) m.index m.place (no_growth m.then.sources)) holds)
  by_root m TooLong holds =
      of_append m.then.diags (fault_at head kind.FileTooLong (File root) ∷ []) ∙ ap (λ l. l ++ fault_at head kind.FileTooLong (File root) ∷ []) m.told
      ∙ sym (told_by m.then.sources m.index TooLong (index_is m.then.sources m.then.sources (File root) m.index m.place (no_growth m.then.sources)) holds)
  by_root m Broken holds = m.told ∙ sym (told_by m.then.sources m.index Broken (index_is m.then.sources m.then.sources (File root) m.index m.place (no_growth m.then.sources)) holds)
  by_root m Whole holds =
      let next : WalkState = with_number m.index m.then in
      let go = parts_go all 50 0 m.index (File root) next refl (record { names = m.knows.names; holdings = m.knows.holdings; inclusions = m.knows.inclusions }) m.place m.there in
      let t : WalkState = part all 50 m.index next in
      ap (λ (y : Tally). y.told) (go.tells t.sources (no_growth t.sources) ∙ ap (run all t.sources (ThisPart all 50 0 (File root) t.sources)) (same_tally all (tally_of next) (record { count = 0; ended = false; told = [] }) m.count m.ended m.told))
      ∙ run_told all t.sources (ThisPart all 50 0 (File root) t.sources) []
      ∙ sym (told_by t.sources m.index Whole (index_is m.then.sources t.sources (File root) m.index m.place go.grows) holds)

  pub told_in_preorder : TellsAll (walked all root)
  told_in_preorder =
      let m = is_met all head (File root) empty_state (knows_nothing all) in
      subst (λ x. TellsAll (onward_by (part all 50) x)) (sym m.is) (by_root m (kept_content m.index (content_of all (File root))).holding refl)
