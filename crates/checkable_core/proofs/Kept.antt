-- What is kept of entries.
use Rattle.std.proofs.Common.{◌≡◌, ℕ, ◌+◌, ◌≤◌, List, [], ◌∷◌, ◌++◌, length, reverse, Option, sym, ap, ◌∙◌, arith, subst}
use Rattle.check_state.specs.Stands as shown
use Rattle.downtime_book.specs.Contents as book
use Rattle.notify_rules.specs.Sent as sent
use Rattle.run_meaning.specs.Dealing.{last_moment}
use Rattle.run_meaning.specs.Downtimes.{call_in, calls_from}
use Rattle.run_meaning.specs.View.{is_problem, last_status, or_before, state_after, view_back, view_of}
use Rattle.site_model.specs.PlainSite.{PlainCheck, PlainSite}
use Rattle.site_model.specs.declared.entry.Entry.{Entry}
use Rattle.site_model.specs.declared.view.View.{View}
use Rattle.checkable_core.specs.Keeping.{IsProblemOf, Keeps}
use Rattle.checkable_core.specs.declared.running.Running.{Running}
use Rattle.checkable_core.proofs.Calls.{calls_more}
use Rattle.checkable_core.proofs.Listed.{back_of, count_more, follows, last_more}

-- Views after one entry more.

pub shown_more : (c : PlainCheck) (h : List Entry) (e : Entry) → view_of c (h ++ e ∷ []) ≡ view_back c (e ∷ reverse h)
shown_more c h e = ap (view_back c) (back_of h e)

pub problem_told : (c : PlainCheck) (h : List Entry) (e : Entry) (v : View) → v ≡ view_of c (h ++ e ∷ []) → IsProblemOf c e.event (is_problem v.state)
problem_told c h e v is status at =
    ap (λ (w : View). is_problem w.state) (is ∙ shown_more c h e)
    ∙ ap (λ (o : Option ℕ). is_problem (state_after c (or_before o (last_status (reverse h))))) at

pub counted : (c : PlainCheck) (h : List Entry) (e : Entry) (v : View) → v ≡ view_of c (h ++ e ∷ []) → v.count ≡ 1 + length h
counted c h e v is = ap (λ (w : View). w.count) is ∙ count_more h e

-- how many entries there are
pub count_is : (c : PlainCheck) (h : List Entry) (v : View) → v ≡ view_of c h → v.count ≡ length (reverse h)
count_is c h v is = ap (λ (w : View). w.count) is

-- One entry more.

-- the downtimes go on with the entry, by its place and by what the checkable shows after it
pub book_more : (c : PlainCheck) (h : List Entry) (e : Entry) (v : View) (b : book.Contents) → v ≡ view_of c (h ++ e ∷ []) →
    book.StandsFor b (calls_from c 1 h ++ call_in c v.count e.moment e.event e.taken) → book.StandsFor b (calls_from c 1 (h ++ e ∷ []))
book_more c h e v b is stands = subst (book.StandsFor b) (sym (calls_more c 1 v.count h e (counted c h e v is))) stands

pub kept_more : (old new : Running) (s : PlainSite) (k : ℕ) (c : PlainCheck) (h : List Entry) (e : Entry) (v : View) → Keeps old s k c h → last_moment h ≤ e.moment →
    shown.StandsFor new.status c (h ++ e ∷ []) → new.last ≡ e.moment → v ≡ new.status.view →
    (IsProblemOf c e.event (is_problem v.state) → book.StandsFor old.book (calls_from c 1 h) → book.StandsFor new.book (calls_from c 1 h ++ call_in c v.count e.moment e.event e.taken)) →
    new.book.latest ≤ e.moment → (sent.StandsFor old.sent s k c h → sent.Follows e (reverse h) → sent.StandsFor new.sent s k c (h ++ e ∷ [])) → Keeps new s k c (h ++ e ∷ [])
kept_more old new s k c h e v keeps late is now at entered latest noted =
    let shows : v ≡ view_of c (h ++ e ∷ []) = at ∙ is.view in
    let last : last_moment (h ++ e ∷ []) ≡ e.moment = last_more h e in
    record {
      status = is;
      last = now ∙ sym last;
      book = book_more c h e v new.book shows (entered (problem_told c h e v shows) keeps.book);
      latest = omega (arith, last, latest);
      sent = noted keeps.sent (follows h e keeps.sent.in_order late);
    }

-- The checkable of a site.

pub at_check : (r : Running) (s : PlainSite) (k : ℕ) (c d : PlainCheck) (h : List Entry) → c ≡ d → Keeps r s k c h → Keeps r s k d h
at_check r s k c d h e keeps = subst (λ (x : PlainCheck). Keeps r s k x h) e keeps
