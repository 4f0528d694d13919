-- What a log of a version tells of what happened: version one leaves the texts of results out.
use Rattle.std.specs.Prelude.{map}
use Rattle.log_text.specs.EntryTwo.{untold, without_texts}
use Rattle.run_meaning.specs.Acts.{Act}
use Rattle.run_meaning.specs.Turns.{Asked, Histories}
use Rattle.run_text.specs.declared.style.Style.{Style}
use Rattle.run_text.specs.declared.style.Style.TheVariants.{One, Two}
use Rattle.site_model.specs.declared.event.Event.{Event}

abbrev pub told_event : Style → Event → Event
told_event One e = without_texts e
told_event Two e = e

-- Acts, events that are taken, and entries, without these texts.

abbrev pub untold_act : Act → Act
untold_act a = record a { event = without_texts a.event }

abbrev pub untold_asked : Asked → Asked
untold_asked a = record a { event = without_texts a.event }

abbrev pub untold_all : Histories → Histories
untold_all histories = map (map untold) histories
