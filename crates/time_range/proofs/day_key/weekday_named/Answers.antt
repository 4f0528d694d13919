-- Each arm of the match is one name.
use Rattle.std.proofs.Common.{◌≡◌, ap, sym, arith, codes}
use Rattle.std.proofs.lemmas.Slice.Eq.{text_from_reads}
use Rattle.time_range.specs.Days.{weekday_named}
use Rattle.time_range.proofs.day_key.weekday_named.Goals as goal

pub returns-in-monday : goal.returns-in-monday
returns-in-monday c =
    let text : c.args.key.now ≡ codes "monday" = text_from_reads c.args.key.now (codes "monday") (omega arith) (omega arith, (omega arith, (omega arith, (omega arith, (omega arith, (omega arith, tt)))))) in
    sym (ap weekday_named text)

pub returns-in-tuesday : goal.returns-in-tuesday
returns-in-tuesday c =
    let text : c.args.key.now ≡ codes "tuesday" = text_from_reads c.args.key.now (codes "tuesday") (omega arith) (omega arith, (omega arith, (omega arith, (omega arith, (omega arith, (omega arith, (omega arith, tt))))))) in
    sym (ap weekday_named text)

pub returns-in-wednesday : goal.returns-in-wednesday
returns-in-wednesday c =
    let text : c.args.key.now ≡ codes "wednesday" = text_from_reads c.args.key.now (codes "wednesday") (omega arith) (omega arith, (omega arith, (omega arith, (omega arith, (omega arith, (omega arith, (omega arith, (omega arith, (omega arith, tt))))))))) in
    sym (ap weekday_named text)

pub returns-in-thursday : goal.returns-in-thursday
returns-in-thursday c =
    let text : c.args.key.now ≡ codes "thursday" = text_from_reads c.args.key.now (codes "thursday") (omega arith) (omega arith, (omega arith, (omega arith, (omega arith, (omega arith, (omega arith, (omega arith, (omega arith, tt)))))))) in
    sym (ap weekday_named text)

pub returns-in-friday : goal.returns-in-friday
returns-in-friday c =
    let text : c.args.key.now ≡ codes "friday" = text_from_reads c.args.key.now (codes "friday") (omega arith) (omega arith, (omega arith, (omega arith, (omega arith, (omega arith, (omega arith, tt)))))) in
    sym (ap weekday_named text)

pub returns-in-saturday : goal.returns-in-saturday
returns-in-saturday c =
    let text : c.args.key.now ≡ codes "saturday" = text_from_reads c.args.key.now (codes "saturday") (omega arith) (omega arith, (omega arith, (omega arith, (omega arith, (omega arith, (omega arith, (omega arith, (omega arith, tt)))))))) in
    sym (ap weekday_named text)

pub returns-in-sunday : goal.returns-in-sunday
returns-in-sunday c =
    let text : c.args.key.now ≡ codes "sunday" = text_from_reads c.args.key.now (codes "sunday") (omega arith) (omega arith, (omega arith, (omega arith, (omega arith, (omega arith, (omega arith, tt)))))) in
    sym (ap weekday_named text)
