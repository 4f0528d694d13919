-- One of the books with an entry more.
use Rattle.std.proofs.Common.{◌≡◌, ◌<◌, ◌≤◌, ℕ, List, [], ◌∷◌, ◌++◌, length, map, set, slice_get, get_or, Option, Some, true, sym, ap, ◌∙◌, subst, arith}
use Rattle.std.proofs.lemmas.Option.{slice_get-get_or}
use Rattle.std.proofs.lemmas.Slice.Eq.{bytes_eq-Decides}
use Rattle.std.specs.Str.{bytes_eq}
use Rattle.checkable_core.proofs.Listed.{last_more}
use Rattle.checkable_core.proofs.Own.{ancestors_own}
use Rattle.checkable_core.specs.Contents.{Contents, check_at}
use Rattle.checkable_core.specs.Contents as contents
use Rattle.checkable_core.specs.Entries.{entry_made}
use Rattle.jiff_tz.specs.declared.tzif.Tzif.{Tzif}
use Rattle.run_meaning.proofs.Lists.{get_of_map, within}
use Rattle.run_meaning.specs.Alone.{with_entry}
use Rattle.run_meaning.specs.Dealing.{last_moment}
use Rattle.run_meaning.specs.Reachability.{ancestors}
use Rattle.run_meaning.specs.Turns.{of_index}
use Rattle.run_meaning.specs.View.{view_of}
use Rattle.site_model.specs.PlainSite.{PlainSite, site_view}
use Rattle.site_model.specs.declared.entry.Entry.{Entry}
use Rattle.site_model.specs.declared.event.Event.{Event}
use Rattle.site_model.specs.declared.sight.Sight.{Sight}
use Rattle.site_model.specs.declared.view.View.{View}
use Rattle.site_posts.specs.Books.{AreBooks, IsBook, histories_of}
use Rattle.site_posts.proofs.Behind.{entries_at, still_books}

module _ (s : PlainSite) (now : ℕ) (books : List Contents) (are : AreBooks s now books) where
  module _ (zone : Option Tzif) (k : ℕ) (book : Contents) (at : slice_get books k ≡ Some book) where
    mine : IsBook s now k book
    mine = are.each k book at

    -- an entry is made of what stands there
    pub made_there : (caller : ℕ) (e : Entry) (v : Event) (seen : List (ℕ × View)) → e ≡ entry_made s zone book.index book.entries caller now v seen → e ≡ entry_made s zone k (of_index k (histories_of books)) caller now v seen
    made_there caller e v seen made =
        made
        ∙ ap (λ i. entry_made s zone i book.entries caller now v seen) mine.index
        ∙ ap (λ es. entry_made s zone k es caller now v seen) (sym (entries_at books k book at))

    pub books_then : (caller : ℕ) (e : Entry) (v : Event) (seen : List (ℕ × View)) (later : Contents) → later ≡ contents.with_entry book e → e ≡ entry_made s zone book.index book.entries caller now v seen → (items : List Contents) → items ≡ set books k later → AreBooks s now items
    books_then caller e v seen later kept made items is =
        let when : e.moment ≡ now = ap (λ (x : Entry). x.moment) made in
        let last : last_moment (book.entries ++ e ∷ []) ≡ e.moment = last_more book.entries e in
        let one : IsBook s now k (contents.with_entry book e) = record { site = mine.site; index = mine.index; moment = omega (arith, last, when) } in
        subst (AreBooks s now) (sym (is ∙ ap (λ b. set books k b) kept)) (still_books s now books k (contents.with_entry book e) are one)

  -- what a book shows
  pub shows_there : (k : ℕ) (book : Contents) → slice_get books k ≡ Some book → (v : View) → v ≡ view_of (check_at (site_view book.site) book.index) book.entries → v ≡ view_of (check_at s k) (of_index k (histories_of books))
  shows_there k book at v is =
      let mine = are.each k book at in
      is
      ∙ ap (λ t. view_of (check_at t book.index) book.entries) mine.site
      ∙ ap (λ i. view_of (check_at s i) book.entries) mine.index
      ∙ ap (view_of (check_at s k)) (sym (entries_at books k book at))

  -- a sight of an ancestor is of one of the books
  pub sight_within : (c i : ℕ) (xs : List Sight) (x : Sight) (ps : List ℕ) → ps ≡ ancestors s c → bytes_eq (map (λ (y : Sight). y.checkable) xs) ps ≡ true → slice_get xs i ≡ Some x → x.checkable < length books
  sight_within c i xs x ps is same at =
      let names : map (λ (y : Sight). y.checkable) xs ≡ ps = (bytes_eq-Decides (map (λ (y : Sight). y.checkable) xs) ps).0 same in
      let name : slice_get (ancestors s c) i ≡ Some x.checkable = ap (λ z. slice_get z i) (sym (names ∙ is)) ∙ get_of_map (λ (y : Sight). y.checkable) xs i x at in
      let own = ancestors_own s c i 0 (within (ancestors s c) i x.checkable name) in
      let get : get_or (ancestors s c) i 0 ≡ x.checkable = (let e : Some (get_or (ancestors s c) i 0) ≡ Some x.checkable = sym (slice_get-get_or (ancestors s c) i 0 (within (ancestors s c) i x.checkable name)) ∙ name in cc) in
      let many = are.whole in
      omega (arith, own, get, many)
