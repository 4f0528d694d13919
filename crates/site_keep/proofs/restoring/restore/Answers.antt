-- What is read makes the bytes a state file.
use Rattle.site_model.specs.PlainSite.{site_view}
use Rattle.site_posts.specs.Books.{histories_of}
use Rattle.site_keep.proofs.GivenLaws.{gives_none, gives_saved, gives_state}
use Rattle.site_keep.proofs.restoring.restore.Goals as goal

pub returns-clause-ok : goal.returns-clause-ok
returns-clause-ok c = gives_state (site_view c.args.site.now) c.args.bytes.now (λ books. histories_of books.items) c.read_state.result c.requires.sound c.read_state.ensures.told

pub returns-clause-bad : goal.returns-clause-bad
returns-clause-bad c = gives_none (site_view c.args.site.now) c.args.bytes.now (λ books. histories_of books.items) c.read_state.result c.requires.sound c.read_state.ensures.told

pub returns-clause-saved : goal.returns-clause-saved
returns-clause-saved c = gives_saved (site_view c.args.site.now) c.args.bytes.now (λ books. histories_of books.items) c.read_state.result c.requires.sound c.read_state.ensures.told
