-- Each part is read as a script by itself.
use Rattle.std.proofs.Common.{List, ℕ, get_or, sym, subst, arith}
use Rattle.std.specs.Borrow.{Bor}
use Rattle.site_text.specs.Scripts.{Has}
use Rattle.site_text.specs.ScriptReading.{Tells}
use Rattle.script_parts.specs.Parts.{texts_of}
use Rattle.script_parts.proofs.PartByPart.{each_read}
use Rattle.script_parts.proofs.reading.read_parts.Goals as goal

pub returns : goal.returns
returns g c =
    let parts = c.in_ok-parts.parts in
    let read = c.in_ok-read.read in
    record {
      parts = texts_of parts.items;
      whole = c.in_ok-parts.ensures;
      each = each_read parts.items read.items (omega (arith, c.in_ok-read.ensures.len, parts.ok.0, read.ok.0)) (λ i p d l.
          let job = (c.in_ok-read.ensures.each i d l).1 in
          subst (λ (j : Bor (List ℕ)). Tells (Has j.now) (get_or read.items i d)) (sym (job.job_is p)) job.call.met);
    }
