-- What is seen of books, and one of them with an entry more.
use Rattle.std.proofs.Common.{◌≡◌, ℕ, suc, ◌+◌, ◌<◌, List, [], ◌∷◌, ◌++◌, length, map, take, set, slice_get, get_or, Option, Some, sym, ap, ◌∙◌, subst, arith}
use Rattle.std.proofs.lemmas.List.{map-append}
use Rattle.std.proofs.lemmas.Option.{slice_get-get_or}
use Rattle.checkable_core.proofs.Listed.{last_more}
use Rattle.checkable_core.proofs.Own.{ancestors_own}
use Rattle.checkable_core.specs.Contents.{Contents, check_at}
use Rattle.checkable_core.specs.Contents as contents
use Rattle.checkable_core.specs.Entries.{entry_made}
use Rattle.jiff_tz.specs.declared.tzif.Tzif.{Tzif}
use Rattle.run_meaning.proofs.Lists.{take_next, take_whole}
use Rattle.run_meaning.specs.Alone.{with_entry}
use Rattle.run_meaning.specs.Dealing.{last_moment}
use Rattle.run_meaning.specs.Reachability.{ancestors}
use Rattle.run_meaning.specs.Turns.{of_index}
use Rattle.run_meaning.specs.View.{view_of}
use Rattle.site_model.specs.PlainSite.{PlainSite, site_view}
use Rattle.site_model.specs.declared.entry.Entry.{Entry}
use Rattle.site_model.specs.declared.event.Event.{Event}
use Rattle.site_model.specs.declared.view.View.{View}
use Rattle.site_posts.specs.Books.{AreBooks, IsBook, histories_of}
use Rattle.site_posts.specs.Made.{entry_next}
use Rattle.site_posts.specs.Sights.{shown, shown_by}
use Rattle.site_posts.proofs.Behind.{books_more, books_same, entries_at, still_books}
use Rattle.site_posts.proofs.Showing.{made_next}

module _ (s : PlainSite) (now : ℕ) (books : List Contents) (are : AreBooks s now books) where
  -- the book at a place
  pub book_at : (k : ℕ) (book : Contents) → k < length s.checkables → book ≡ get_or books k book → slice_get books k ≡ Some book
  book_at k book h is =
      let many = are.whole in
      let within : k < length books = omega (arith, many, h) in
      slice_get-get_or books k book within ∙ ap Some (sym is)

  pub book_within : (k : ℕ) (book : Contents) → k < length books → book ≡ get_or books k book → slice_get books k ≡ Some book
  book_within k book h is = slice_get-get_or books k book h ∙ ap Some (sym is)

  -- What is seen of the books.

  pub ancestor_within : (c i : ℕ) (ps : List ℕ) → ps ≡ ancestors s c → i < length ps → get_or ps i 0 < length books
  ancestor_within c i ps is h =
      let own : get_or ps i 0 < length s.checkables = subst (λ qs. i < length qs → get_or qs i 0 < length s.checkables) (sym is) (λ l. ancestors_own s c i 0 l) h in
      let many = are.whole in
      omega (arith, own, many)

  shown_is : (p : ℕ) (book : Contents) (v : View) → slice_get books p ≡ Some book → v ≡ view_of (check_at (site_view book.site) book.index) book.entries → (p, v) ≡ shown_by s (histories_of books) p
  shown_is p book v at is =
      let mine = are.each p book at in
      ap (λ w. (p, w)) (is
      ∙ ap (λ t. view_of (check_at t book.index) book.entries) mine.site
      ∙ ap (λ k. view_of (check_at s k) book.entries) mine.index
      ∙ ap (view_of (check_at s p)) (sym (entries_at books p book at)))

  -- what one more of the ancestors shows comes behind what those before it show
  pub shown_more : (i p : ℕ) (ps : List ℕ) (book : Contents) (v : View) (old new : List (ℕ × View)) → slice_get ps i ≡ Some p → slice_get books p ≡ Some book → v ≡ view_of (check_at (site_view book.site) book.index) book.entries
      → old ≡ map (shown_by s (histories_of books)) (take i ps) → new ≡ old ++ (p, v) ∷ [] → new ≡ map (shown_by s (histories_of books)) (take (i + 1) ps)
  shown_more i p ps book v old new here there shows so_far grown =
      let f = shown_by s (histories_of books) in
      let more : suc i ≡ i + 1 = omega arith in
      grown
      ∙ ap (λ xs. xs ++ (p, v) ∷ []) so_far
      ∙ ap (λ x. map f (take i ps) ++ x ∷ []) (shown_is p book v there shows)
      ∙ sym (map-append f (take i ps) (p ∷ []))
      ∙ ap (map f) (sym (take_next ps i p here))
      ∙ ap (λ n. map f (take n ps)) more

  pub shown_all : (c i : ℕ) (ps : List ℕ) (items : List (ℕ × View)) → ps ≡ ancestors s c → i ≡ length ps → items ≡ map (shown_by s (histories_of books)) (take i ps) → items ≡ shown s (histories_of books) c
  shown_all c i ps items is all so_far =
      so_far ∙ ap (λ n. map (shown_by s (histories_of books)) (take n ps)) all ∙ ap (map (shown_by s (histories_of books))) (take_whole ps ∙ is)

  -- One act.

  module _ (zone : Option Tzif) (k : ℕ) (book later : Contents) (sights : List (ℕ × View)) (e : Entry) (v : Event) (at : slice_get books k ≡ Some book) where
    pub made_is : (caller : ℕ) → sights ≡ shown s (histories_of books) k → e ≡ entry_made s zone book.index book.entries caller now v sights
        → e ≡ entry_next s zone now (histories_of books) caller k v
    made_is caller seen made =
        let mine = are.each k book at in
        made
        ∙ ap (λ i. entry_made s zone i book.entries caller now v sights) mine.index
        ∙ ap (λ es. entry_made s zone k es caller now v sights) (sym (entries_at books k book at))
        ∙ ap (λ xs. entry_made s zone k (of_index k (histories_of books)) caller now v xs) seen
        ∙ made_next s (histories_of books) zone now caller k v

    pub kept_is : later ≡ contents.with_entry book e → (items : List Contents) → items ≡ set books k later → histories_of items ≡ with_entry k e (histories_of books)
    kept_is kept items is = ap histories_of (is ∙ ap (λ b. set books k b) kept) ∙ books_more books k book e at

    pub books_are : (caller : ℕ) → later ≡ contents.with_entry book e → e ≡ entry_made s zone book.index book.entries caller now v sights → (items : List Contents) → items ≡ set books k later → AreBooks s now items
    books_are caller kept made items is =
        let mine = are.each k book at in
        let when : e.moment ≡ now = ap (λ (x : Entry). x.moment) made in
        let last : last_moment (book.entries ++ e ∷ []) ≡ e.moment = last_more book.entries e in
        let one : IsBook s now k (contents.with_entry book e) = record { site = mine.site; index = mine.index; moment = omega (arith, last, when) } in
        subst (AreBooks s now) (sym (is ∙ ap (λ b. set books k b) kept)) (still_books s now books k (contents.with_entry book e) are one)

    pub all_same : later ≡ book → (items : List Contents) → items ≡ set books k later → items ≡ books
    all_same same items is = is ∙ ap (λ b. set books k b) same ∙ books_same books k book at
