-- What has the number goes from each run, and so does what is past.
use Rattle.std.proofs.Common.{◌≡◌, ◌==◌, not, List, length, drop, filter, ap, ◌∙◌, rules, arith, take_at}
use Rattle.downtime_book.specs.declared.downtime.Downtime.{Downtime}
use Rattle.downtime_book.specs.Downtime.{is_live}
use Rattle.downtime_book.specs.Contents.{Contents, together}
use Rattle.downtime_book.proofs.Together.{fewer}
use Rattle.downtime_book.proofs.Steps.{StandsFor-cancelled}
use Rattle.downtime_book.proofs.book.Book.cancel.Goals as goal

pub count-self-inside-requires : goal.count-self-inside-requires
count-self-inside-requires c =
    let test : Downtime → _ = λ (d : Downtime). not (d.number == c.args.number) in
    let was : together c.deref_mut.result.now ≡ c.args.self.now.downtimes = search (rules, c.self.view_is) in
    let gone : together c.cancel.new.runs ≡ filter (is_live c.args.moment) (filter test (together c.deref_mut.result.now)) = search (rules, c.cancel.ensures.kept) in
    let long : length c.cancel.new.runs ≡ c.self.inside.runs.len = search (rules, c.cancel.ensures.length) in
    let whole = ap together (take_at c.cancel.new.runs (drop (length c.cancel.new.runs) c.self.inside.runs.items) c.self.inside.runs.len long) in
    let all : together c.deref.result.now ≡ together c.cancel.new.runs = search (rules, c.drop_empty.ensures, whole) in
    let few = fewer (is_live c.args.moment) (filter test (together c.deref_mut.result.now)) in
    let fewest = fewer test (together c.deref_mut.result.now) in
    let less = ap length (all ∙ gone) in
    let old = ap length was in
    let held = c.self.invariant ∙ ap (λ (b : Contents). length b.downtimes) c.self.view_is in
    omega (arith, few, fewest, less, old, held)

pub returns-clause-ok : goal.returns-clause-ok
returns-clause-ok c = λ calls s.
    let was : together c.deref_mut.result.now ≡ c.args.self.now.downtimes = search (rules, c.self.view_is) in
    let others : List Downtime → List Downtime = λ l. filter (is_live c.args.moment) (filter (λ (d : Downtime). not (d.number == c.args.number)) l) in
    let gone : together c.cancel.new.runs ≡ others (together c.deref_mut.result.now) = search (rules, c.cancel.ensures.kept) in
    let long : length c.cancel.new.runs ≡ c.self.inside.runs.len = search (rules, c.cancel.ensures.length) in
    let whole = ap together (take_at c.cancel.new.runs (drop (length c.cancel.new.runs) c.self.inside.runs.items) c.self.inside.runs.len long) in
    let all : together c.drop_empty.new.runs.items ≡ together c.cancel.new.runs = search (rules, c.drop_empty.ensures, whole) in
    StandsFor-cancelled c.args.self.now calls c.args.number c.args.moment _ s c.requires (all ∙ gone ∙ ap others was)
