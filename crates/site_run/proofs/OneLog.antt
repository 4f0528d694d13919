-- The log of turns over a site is one.
use Rattle.std.proofs.Common.{◌≡◌, ℕ, List, map, Option, sym, ap, ◌∙◌, take}
use Rattle.jiff_tz.specs.declared.tzif.Tzif.{Tzif}
use Rattle.run_meaning.specs.Alone.{run_alone}
use Rattle.run_meaning.specs.Meaning.{basis_of}
use Rattle.run_meaning.specs.Runs.{TurnLog, start}
use Rattle.run_meaning.proofs.OneLog.{only_log}
use Rattle.run_text.specs.LogText.{log_text}
use Rattle.run_text.specs.TurnReading.{lines_read, turn_read}
use Rattle.run_text.specs.declared.style.Style.{Style}
use Rattle.run_text.proofs.ReadLaws.{turns_are}
use Rattle.site_edge.specs.declared.turn.Turn.{Turn}
use Rattle.site_model.specs.PlainSite.{PlainSite}
use Rattle.site_model.specs.Sound.{HasNames}
use Rattle.turn_engine.specs.Orders.{command_of}
use Rattle.turn_engine.specs.Ready.{IsZoneOf}
use Rattle.site_run.specs.Feeds.{Fed, basis_with}
use Rattle.site_run.specs.Logs.{AreLogs, Given, IsLog, Output}
use Rattle.site_run.proofs.Zones.{same_holds}

pub same_basis : (s : PlainSite) (fed : Fed) (a b : Option Tzif) → IsZoneOf s.zone a → IsZoneOf s.zone b → basis_with s a fed ≡ basis_with s b fed
same_basis s fed a b p q = ap (λ holds. basis_of s holds (command_of s) (λ begun. lines_read s (fed begun))) (same_holds s.zone a b p q s)

logs_are : (s : PlainSite) (given : Given) (turns : List Turn) (ls : List TurnLog) → HasNames s → (p : AreLogs 1 s given turns ls) → ls ≡ run_alone (basis_with s p.zone given.fed) (start s given.histories) (map (turn_read s) turns)
logs_are s given turns ls names p =
    let begin = start s given.histories in
    let basis = basis_with s p.zone given.fed in
    only_log basis begin p.reads ls p.run ∙ ap (run_alone basis begin) (turns_are s turns p.reads names p.read)

-- whatever tables of the zone's file they stand on, and however they are read
pub one_run : (s : PlainSite) (given : Given) (turns : List Turn) (ls ms : List TurnLog) → HasNames s → AreLogs 1 s given turns ls → AreLogs 1 s given turns ms → ls ≡ ms
one_run s given turns ls ms names p q =
    logs_are s given turns ls names p
    ∙ ap (λ b. run_alone b (start s given.histories) (map (turn_read s) turns)) (same_basis s given.fed p.zone q.zone p.is_zone q.is_zone)
    ∙ sym (logs_are s given turns ms names q)

pub one_log : (style : Style) (limit : ℕ) (s : PlainSite) (given : Given) (turns : List Turn) (v w : Output) → HasNames s → IsLog 1 style limit s given turns v → IsLog 1 style limit s given turns w → v ≡ w
one_log style limit s given turns v w names p q =
    let text : v.text ≡ w.text = p.text ∙ ap (log_text style s) (one_run s given (take limit turns) p.logs q.logs names p.are q.are) ∙ sym q.text in
    let ends = p.ends ∙ sym q.ends in
    λ i. record { text = text i; ends = ends i }
