-- The plain values of what is dealt.
use Rattle.std.specs.Prelude.{ℕ, List}
use Rattle.check_plan.specs.Plans.{Plan}
use Rattle.event_text.specs.Faults.{fault_name}
use Rattle.run_meaning.specs.Dealing as dealing
use Rattle.run_meaning.specs.Turns.{Asked, Outstanding}
use Rattle.site_model.specs.declared.event.Event.TheVariants as event
use Rattle.site_posts.specs.Made.{asked_of}
use Rattle.turn_deal.specs.declared.dealt.ReportAct.{ReportAct}
use Rattle.turn_deal.specs.declared.refusal.Refusal.{Refusal}
use Rattle.turn_deal.specs.declared.refusal.Refusal.TheVariants as refusal

abbrev pub refusal_of : Refusal → dealing.Refusal
refusal_of (refusal.Line number fault) = dealing.refused_line number (fault_name fault)
refusal_of (refusal.Report order) = dealing.refused_report order

abbrev pub taken_of : ReportAct → dealing.Taken
taken_of r = record { order = r.order; asked = asked_of r.act }

abbrev pub tick_of : ℕ → Asked
tick_of k = record { checkable = k; event = event.Tick }

-- with these as the orders that have no report
abbrev pub with_outstanding : List Outstanding → Plan → Plan
with_outstanding os p = record p { orders = record { given = p.orders.given; outstanding = os } }
