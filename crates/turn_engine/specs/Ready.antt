-- What holds of an engine between its turns.
use Rattle.std.specs.Prelude.{◌≡◌, ◌≤◌, ◌*◌, ◌^◌, ℕ, List, Option, None, Bool, map, MatchOption}
use Rattle.jiff_tz.specs.declared.tzif.Tzif.{Tzif}
use Rattle.site_model.specs.PlainSite.{PlainSite}
use Rattle.time_range.specs.Zone.{IsTableOf}
use Rattle.check_plan.specs.Plans.{IsPlan, plans_of}
use Rattle.depend_graph.specs.Graph.{IsGraphOf}
use Rattle.lasting_problems.specs.Lasting.{lasting}
use Rattle.lasting_problems.specs.Noted.{noted}
use Rattle.site_model.specs.PlainSite.{site_view}
use Rattle.site_posts.specs.Books.{AreBooks, histories_of}
use Rattle.run_text.specs.TurnReading.{report_read}
use Rattle.turn_engine.specs.Stages.{Running}
use Rattle.turn_engine.specs.declared.state.EngineState.{EngineState}

abbrev pub running : EngineState → Running
running w = record {
  site = w.site;
  zone = w.zone;
  turns = w.turns;
  moment = w.moment;
  histories = histories_of w.books.items;
  plans = plans_of w.plan;
  due = map report_read w.not_started.items;
}

-- all that is kept is of the site and of the entries so far, and no turn gave more orders than may be outstanding
pub record IsReady (w : EngineState) : Type 0 where
  pub graph : IsGraphOf (site_view w.site) w.graph
  pub books : AreBooks (site_view w.site) w.moment w.books.items
  pub plan : IsPlan (site_view w.site) w.plan
  pub problems : w.problems ≡ noted (lasting (site_view w.site) (histories_of w.books.items))
  pub given : w.plan.orders.given ≤ w.turns * 65535
  pub most : (site_view w.site).max_orders ≤ 65535
  pub turns : w.turns ≤ 2 ^ 40

-- how far the run has come, and whether a turn of it was left half taken
pub record EngineView : Type 0 where
  pub run : Running
  pub spent : Bool

-- the table is that of the zone's file; there is none for UTC
abbrev pub IsZoneOf : Option (List ℕ) → Option Tzif → Type 0
IsZoneOf file table = MatchOption file (table ≡ None) (λ bytes. MatchOption table ⊥ (IsTableOf bytes))
