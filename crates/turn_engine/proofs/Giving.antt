-- A turn whose round is told: the one, or none.
use Rattle.std.proofs.Common.{◌≡◌, ℕ, List, length, MatchOption, Option, Some, None, sym, ap, ◌∙◌, subst}
use Rattle.checkable_core.specs.Contents.{Contents}
use Rattle.round_check.proofs.SegmentLaws.{segments_same}
use Rattle.round_check.specs.Answer.{IsNoRound, IsOnlyRound}
use Rattle.round_check.specs.declared.told.Told.{Told}
use Rattle.run_meaning.specs.Rounds.{IsRound}
use Rattle.run_meaning.specs.Runs.{Basis, IsTurn, Stage, TurnLog, begun_by, events_of, planned_of, refusals_of}
use Rattle.run_meaning.specs.Turns.{Begun, ReadTurn}
use Rattle.site_edge.specs.declared.turn.Turn.{Turn}
use Rattle.site_model.specs.PlainSite.{site_view}
use Rattle.site_posts.specs.Books.{histories_of}
use Rattle.site_posts.specs.declared.segment.Segment.{Segment}
use Rattle.turn_deal.specs.declared.dealt.Dealt.{Dealt}
use Rattle.turn_engine.specs.Midst.{IsOpen, basis_at, read_at}
use Rattle.turn_engine.specs.Ready.{running}
use Rattle.turn_engine.specs.Stages.{TellsTurn, stage_of}
use Rattle.turn_engine.specs.Told.{IsNoTurn, IsOnlyTurn}
use Rattle.turn_engine.specs.declared.turn_out.TurnOut.{TurnOut}
use Rattle.turn_engine.specs.declared.state.EngineState.{EngineState}
use Rattle.turn_engine.proofs.Rounding.{began, given_to, given_to_are, moment_is}

-- what holds of a value that is there, or where there is none
pub if_none : {A : Type 0} (N : Type 0) (Q : A → Type 0) (o : Option A) → o ≡ None → MatchOption o N Q → N
if_none N Q None e h = h
if_none N Q (Some x) e h = absurd cc

pub if_some : {A : Type 0} (N : Type 0) (Q : A → Type 0) (o : Option A) (x : A) → o ≡ Some x → MatchOption o N Q → Q x
if_some N Q o x e h = subst (λ z. MatchOption z N Q) e h

-- a turn's log goes by its round
pub same_log : (b : Basis) (callers : ℕ) (st : Stage) (t : ReadTurn) (l k : TurnLog) → IsTurn b callers st t l → IsTurn b callers st t k → l.round ≡ k.round → l ≡ k
same_log b callers st t l k x y same =
    let when : l.moment ≡ k.moment = x.moment ∙ sym y.moment in
    let number : l.number ≡ k.number = x.number ∙ sym y.number in
    let refusals : l.refusals ≡ k.refusals = x.refusals ∙ ap (λ m. refusals_of b st t m) when ∙ sym y.refusals in
    let orders : l.orders ≡ k.orders = x.orders ∙ (λ i. (planned_of b st (when i) (same i)).orders) ∙ sym y.orders in
    λ i. record { number = number i; moment = when i; refusals = refusals i; round = same i; orders = orders i }

module _ {old : EngineState} {turn : Turn} {m : ℕ} {d : Dealt} {w : EngineState} (h : IsOpen old turn m d w) (callers : ℕ) (told : List Told) (begun : List Begun) where
  abbrev b : Basis
  b = basis_at (began h)

  abbrev st : Stage
  st = stage_of (running (began h)) begun

  abbrev t : ReadTurn
  t = read_at (began h) turn

  -- the round of a turn's log is one of the events that were dealt
  round_at : (l : TurnLog) → IsTurn b callers st t l → IsRound b.rules m (histories_of w.books.items) (given_to h callers) l.round
  round_at l x =
      let when : l.moment ≡ m = x.moment ∙ sym (moment_is h) in
      subst (λ es. IsRound b.rules m (histories_of w.books.items) es l.round) (sym (given_to_are h callers))
      (subst (λ n. IsRound b.rules n (histories_of w.books.items) (events_of b callers st t n) l.round) when x.round)

  no_turn_here : IsNoRound (site_view w.site) w.zone m w.books.items (given_to h callers) told → IsNoTurn b callers st t told
  no_turn_here none l x is = none l.round (round_at l x) is

  pub no_turn : IsNoRound (site_view w.site) w.zone m w.books.items (given_to h callers) told → IsNoTurn (basis_at old) callers (stage_of (running old) begun) (read_at old turn) told
  no_turn none = subst (λ v. IsNoTurn (basis_at v) callers (stage_of (running v) begun) (read_at v turn) told) h.others (no_turn_here none)

  only_here : (books : List Contents) (segments : List Segment) (out : TurnOut) (next : Stage) → IsOnlyRound (site_view w.site) w.zone m w.books.items books (given_to h callers) told segments → out.segments ≡ segments → TellsTurn b callers st t out next → IsOnlyTurn b callers st t told out next
  only_here books segments out next found same x = record {
    found = x;
    only = λ l y is.
        let one = found.only l.round (round_at l y) is in
        let whole = y.round.whole ∙ sym x.is.round.whole in
        let segs = sym found.made.told ∙ sym same ∙ x.tells.entries in
        let lens = ap length (sym one) ∙ whole in
        let two = segments_same 0 found.made.round x.log.round lens segs in
        same_log b callers st t l x.log y x.is (one ∙ two);
  }

  pub only_turn : (books : List Contents) (segments : List Segment) (out : TurnOut) (new : EngineState) → IsOnlyRound (site_view w.site) w.zone m w.books.items books (given_to h callers) told segments → out.segments ≡ segments
      → TellsTurn b callers st t out (stage_of (running new) (begun_by st new.moment))
      → IsOnlyTurn (basis_at old) callers (stage_of (running old) begun) (read_at old turn) told out (stage_of (running new) (begun_by (stage_of (running old) begun) new.moment))
  only_turn books segments out new found same x =
      subst (λ v. IsOnlyTurn (basis_at v) callers (stage_of (running v) begun) (read_at v turn) told out (stage_of (running new) (begun_by (stage_of (running v) begun) new.moment))) h.others
      (only_here books segments out (stage_of (running new) (begun_by st new.moment)) found same x)
