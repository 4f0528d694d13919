-- A turn of a run that is fed is one of a run that isn't, with what is fed before its own lines.
use Rattle.std.proofs.Common.{◌≡◌, ℕ, max, List, [], ◌∷◌, ◌++◌, map, Option, Result, Ok, Err, IfOk, OnOk, refl, sym, ap, ◌∙◌, subst}
use Rattle.std.proofs.lemmas.List.{map-append}
use Rattle.jiff_tz.specs.declared.tzif.Tzif.{Tzif}
use Rattle.depend_graph.specs.Outlooks.{holds_in}
use Rattle.run_meaning.specs.Dealing.{dealt, line_events, line_refusals, report_refusals, taken_reports, ticks}
use Rattle.run_meaning.specs.Rounds.{IsRound}
use Rattle.run_meaning.specs.Meaning.{basis_of}
use Rattle.run_meaning.specs.Runs.{Basis, IsTurn, Stage, TurnLog, begun_by, lines_of, reports_of, stage_after}
use Rattle.run_meaning.specs.Turns.{Asked, Begun, Feed, Histories, Line, ReadTurn}
use Rattle.event_text.specs.Reading.{line_read}
use Rattle.run_text.specs.TurnReading.{as_line, lines_read, turn_read}
use Rattle.run_text.specs.declared.style.Style.{Style}
use Rattle.site_edge.specs.declared.turn.Turn.{Turn}
use Rattle.site_model.specs.PlainSite.{PlainSite, site_view}
use Rattle.turn_engine.specs.Orders.{command_of}
use Rattle.turn_engine.specs.Stages.{Running, Tells, basis_of_site, stage_of}
use Rattle.turn_engine.specs.declared.turn_out.TurnOut.{TurnOut}
use Rattle.turn_engine.specs.Stages.{TellsTurn}
use Rattle.site_run.specs.Feeds.{Changing, Giving, basis_fed, feed_after, feed_of, lines_fed}

-- What a feed gives for the last of some turns.

pub lines_behind : {F : Type 0} (gives : Giving F) (after : Changing F) (feed : F) (bs : List Begun) (b : Begun) → lines_fed gives after feed (bs ++ b ∷ []) ≡ gives (feed_after after feed bs) b.histories b.moment
lines_behind gives after feed [] b = refl
lines_behind gives after feed (c ∷ []) b = refl
lines_behind gives after feed (c ∷ d ∷ bs) b = lines_behind gives after (after feed c.histories c.moment) (d ∷ bs) b

pub feed_more : {F : Type 0} (after : Changing F) (feed : F) (bs : List Begun) (b : Begun) → feed_after after feed (bs ++ b ∷ []) ≡ after (feed_after after feed bs) b.histories b.moment
feed_more after feed [] b = refl
feed_more after feed (c ∷ bs) b = feed_more after (after feed c.histories c.moment) bs b

-- A turn.

abbrev with_lines : List Line → ReadTurn → ReadTurn
with_lines before t = record t { lines = before ++ t.lines }

turn_with : (b : Basis) (callers : ℕ) (feed : Feed) (st : Stage) (t : ReadTurn) (before : List Line) (l : TurnLog) → ((bs : List Begun) → b.feed bs ≡ []) → before ≡ feed (begun_by st l.moment)
    → IsTurn b callers st (with_lines before t) l → IsTurn (record b { feed = feed }) callers st t l
turn_with b callers feed st t before l none is x =
    let m = l.moment in
    let c : Basis = record b { feed = feed } in
    let same : lines_of b st (with_lines before t) m ≡ lines_of c st t m = ap (λ ls. ls ++ (before ++ t.lines)) (none (begun_by st m)) ∙ ap (λ ls. ls ++ t.lines) is in
    record {
      number = x.number;
      moment = x.moment;
      refusals = x.refusals ∙ ap (λ ls. line_refusals 1 ls ++ report_refusals st.plans.outstanding (reports_of st t)) same;
      round =
          subst (λ ls. IsRound b.rules m st.histories (dealt callers (line_events ls) (taken_reports st.plans.outstanding (reports_of st t)) (ticks b.rules.site st.histories m)) l.round) same x.round;
      orders = x.orders;
    }

module _ {F : Type 0} (s : PlainSite) (zone : Option Tzif) (gives : Giving F) (after : Changing F) (first now : F) (callers : ℕ) (st : Stage) (t fed : Turn) (given : List (List ℕ)) (log : TurnLog) (now_is : now ≡ feed_after after first st.begun) (given_is : given ≡ gives now st.histories (max st.moment t.moment)) (fed_is : fed ≡ record t { lines = given ++ t.lines }) (x : IsTurn (basis_of_site s zone) callers st (turn_read s fed) log) where
  abbrev plain : Basis
  plain = basis_of_site s zone

  abbrev basis : Basis
  basis = basis_fed s zone gives after first

  abbrev own : ReadTurn
  own = turn_read s t

  read_is : turn_read s fed ≡ with_lines (lines_read s given) own
  read_is = ap (turn_read s) fed_is ∙ ap (λ ls. record own { lines = ls }) (map-append (λ line. as_line (line_read s line)) given t.lines)

  moment_is : log.moment ≡ max st.moment t.moment
  moment_is = x.moment ∙ ap (λ (r : ReadTurn). max st.moment r.moment) read_is

  given_so : lines_read s given ≡ feed_of s gives after first (begun_by st log.moment)
  given_so =
      ap (lines_read s)
      (given_is
      ∙ ap (λ f. gives f st.histories (max st.moment t.moment)) now_is
      ∙ ap (gives (feed_after after first st.begun) st.histories) (sym moment_is)
      ∙ sym (lines_behind gives after first st.begun (record { histories = st.histories; moment = log.moment })))

  -- it has the same log
  pub turn_fed : IsTurn basis callers st own log
  turn_fed = turn_with plain callers (feed_of s gives after first) st own (lines_read s given) log (λ bs. refl) given_so (subst (λ (r : ReadTurn). IsTurn plain callers st r log) read_is x)

  -- and leads to the same stage
  pub stage_fed : stage_after plain st (turn_read s fed) log ≡ stage_after basis st own log
  stage_fed = ap (λ (r : ReadTurn). stage_after plain st r log) read_is

-- A turn of one caller is one of so many.

pub takes_alone : {E : Type 0} (r : Result TurnOut E) (b : Basis) (st : Stage) (t : ReadTurn) (l : TurnLog) (next : Stage) → IfOk r (λ out. Tells out l) → OnOk r (IsTurn b 1 st t l) → OnOk r (next ≡ stage_after b st t l) → IfOk r (λ out. TellsTurn b 1 st t out next)
takes_alone (Ok out) b st t l next tells is after = record { log = l; tells = tells; is = is; after = after }
takes_alone (Err e) b st t l next tells is after = tt

-- A feed that gives nothing.

pub none_fed : {F : Type 0} (after : Changing F) (first : F) (begun : List Begun) → lines_fed (λ _ _ _. []) after first begun ≡ []
none_fed after first [] = refl
none_fed after first (b ∷ []) = refl
none_fed after first (b ∷ c ∷ bs) = none_fed after (after first b.histories b.moment) (c ∷ bs)
