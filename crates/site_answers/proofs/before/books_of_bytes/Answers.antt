use Rattle.site_answers.proofs.before.books_of_bytes.Goals as goal

pub returns-in-Ok-clause-are : goal.returns-in-Ok-clause-are
returns-in-Ok-clause-are c =
    let are = c.in-Ok.ensures.are in
    record {
      whole = are.whole;
      each = λ k book at. let is = are.each k book at in record { site = is.site; index = is.index };
    }
