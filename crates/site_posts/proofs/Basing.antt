-- What posts begin with, by the books that were taken out.
use Rattle.std.proofs.Common.{◌≡◌, ℕ, suc, ◌+◌, ◌-◌, ◌<◌, ◌≤◌, List, [], ◌∷◌, ◌++◌, length, set, take, drop, get_or, slice_get, Option, Some, refl, sym, ap, ◌∙◌, subst, arith, length-append}
use Rattle.std.proofs.lemmas.List.{drop_more, same_from_push, take_more}
use Rattle.checkable_core.specs.Contents.{Contents}
use Rattle.checkable_core.specs.declared.machine.SiteMachine.{SiteMachine}
use Rattle.depend_graph.specs.Graph.{IsGraphOf}
use Rattle.jiff_tz.specs.declared.tzif.Tzif.{Tzif}
use Rattle.post_rounds.specs.declared.base.Base.{Base}
use Rattle.post_rounds.proofs.Held.{get_set_other}
use Rattle.post_rounds.proofs.Places.{both_snoc}
use Rattle.run_meaning.proofs.Lists.{get_take}
use Rattle.run_meaning.specs.Dealing.{last_moment}
use Rattle.site_model.specs.PlainSite.{PlainSite, site_view}
use Rattle.site_posts.proofs.Behind.{entries_at}
use Rattle.site_posts.proofs.Booked.{AreBehind}
use Rattle.site_posts.proofs.Rising.{Rise, rise_behind, rise_drop, rises}
use Rattle.site_posts.specs.Books.{AreBooks, histories_of}
use Rattle.site_posts.specs.Lent.{AreTaken}
use Rattle.site_posts.specs.Outlooks.{AreBases, Ascends, IsBaseOf}

-- a book that is left ahead of all that are out stands there from the begin
book_there : (all : List Contents) (ks : List ℕ) (taken left : List Contents) (i : ℕ) (b : Contents) → AreTaken all ks taken left → AreBehind i ks → slice_get left i ≡ Some b → slice_get all i ≡ Some b
book_there all [] taken left i b t behind at = ap (λ bs. slice_get bs i) (sym t.1) ∙ at
book_there all (k ∷ ks) taken left i b (first, rest, book, t, there, is, left_is) behind at =
    let ahead = behind 0 k refl in
    let n = length rest in
    let moved = set rest k (get_or rest (n - 1) book) in
    let here = get_take (n - 1) moved i b (ap (λ bs. slice_get bs i) (sym left_is) ∙ at) in
    book_there all ks first rest i b t (λ j. behind (suc j)) (sym (get_set_other rest k i (get_or rest (n - 1) book) (λ e. omega (arith, e, ahead))) ∙ here)

module _ (s : PlainSite) (zone : Option Tzif) (now : ℕ) where
  pub record IsBased (books : List Contents) (touched : List ℕ) (i : ℕ) (taken : List Contents) (bases : List (Base SiteMachine Contents)) : Type 0 where
    pub left : List Contents
    pub out : AreTaken books (drop i touched) taken left
    pub are : AreBases s zone now (histories_of books) (take i touched) bases

  base_is : (books : List Contents) (k : ℕ) (book : Contents) (base : Base SiteMachine Contents) → AreBooks s now books → slice_get books k ≡ Some book → site_view base.machine.site.now ≡ s → IsGraphOf s base.machine.graph.now → base.machine.zone.now ≡ zone → base.machine.checkable ≡ k → base.machine.moment ≡ now → base.number ≡ k
      → base.start ≡ book → IsBaseOf s zone now (histories_of books) k base
  base_is books k book base are at site graph table checkable moment number start =
      let mine = are.each k book at in record {
        site = site;
        graph = graph;
        zone = table;
        checkable = checkable;
        moment = moment;
        number = number;
        book_site = ap (λ (b : Contents). site_view b.site) start ∙ mine.site;
        index = ap (λ (b : Contents). b.index) start ∙ mine.index;
        entries = ap (λ (b : Contents). b.entries) start ∙ sym (entries_at books k book at);
        last = subst (λ (b : Contents). last_moment b.entries ≤ now) (sym start) mine.moment;
      }

  module _ (books : List Contents) (touched : List ℕ) (are : AreBooks s now books) (up : Ascends touched) (i : ℕ) (within : i < length touched) (bases more : List (Base SiteMachine Contents)) (base : Base SiteMachine Contents) (grown : more ≡ bases ++ base ∷ [])
      (site : site_view base.machine.site.now ≡ s) (graph : IsGraphOf s base.machine.graph.now) (table : base.machine.zone.now ≡ zone) (checkable : base.machine.checkable ≡ get_or touched i 0) (moment : base.machine.moment ≡ now) (number : base.number ≡ get_or touched i 0) where
    abbrev k : ℕ
    k = get_or touched i 0

    step : (new taken left : List Contents) (b : ℕ) → Rise b (k ∷ drop (i + 1) touched) → AreTaken books (k ∷ drop (i + 1) touched) taken left → taken ≡ new ++ base.start ∷ [] → AreBases s zone now (histories_of books) (take i touched) bases → IsBased books touched (i + 1) new more
    step new taken left b rise (first, rest, book, t, there, is, left_is) popped so_far =
        let same = same_from_push first new book base.start (sym is ∙ popped) in
        let at = book_there books (drop (i + 1) touched) first rest k book t (λ j c here. rise_behind (suc k) (drop (i + 1) touched) rise.1 j c here) there in
        let one = base_is books k book base are at site graph table checkable moment number (sym same.1) in
        record {
          left = rest;
          out = subst (λ ts. AreTaken books (drop (i + 1) touched) ts rest) same.0 t;
          are = subst (AreBases s zone now (histories_of books) (take (i + 1) touched)) (sym grown)
              (subst (λ ks. AreBases s zone now (histories_of books) ks (bases ++ base ∷ [])) (sym (take_more touched i 0 within)) (record {
                whole = length-append bases (base ∷ []) ∙ ap (λ n. n + 1) so_far.whole ∙ sym (length-append (take i touched) (k ∷ []));
                each = both_snoc (λ p c a. IsBaseOf s zone now (histories_of books) c a) (take i touched) bases k base so_far.whole so_far.each one;
              }));
        }

    pub one_based : (new taken : List Contents) → taken ≡ new ++ base.start ∷ [] → IsBased books touched i taken bases → IsBased books touched (i + 1) new more
    one_based new taken popped so_far =
        let next = drop_more touched i 0 within in
        let rise = rise_drop 0 i touched (rises touched up) in
        step new taken so_far.left rise.0 (subst (Rise rise.0) next rise.1) (subst (λ ks. AreTaken books ks taken so_far.left) next so_far.out) popped so_far.are
