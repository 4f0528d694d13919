use Rattle.std.proofs.Common.{◌≡◌, ℕ, get_or, true, false, sym, ap, subst, ◌∙◌, rules}
use Rattle.std.specs.Str.{IsCharBoundary}
use Rattle.conf_sources.specs.Names.{through_last, is_slash}
use Rattle.conf_sources.proofs.NameLaws.{turn_hit, turn_miss, begins, ends, folder_boundary}
use Rattle.conf_sources.proofs.names.folder_len.Goals as goal
use Rattle.conf_sources.proofs.names.folder_len.Goals.{then-byte-eq47, else-byte-eq47}

found : (c : goal.After-loop-i) → c.loop-i.len ≡ through_last is_slash c.args.name.now
found c = ends is_slash c.as_bytes-bytes.result.now c.loop-i.i c.loop-i.len c.loop-i-test.false c.loop-i.invariant ∙ ap (through_last is_slash) c.as_bytes-bytes.ensures.value

pub returns-clause-value : goal.returns-clause-value
returns-clause-value c = found c

pub returns-clause-boundary : goal.returns-clause-boundary
returns-clause-boundary c =
    let P : ℕ → Type 0 = λ k. IsCharBoundary c.args.name.now k in
    subst P (sym (found c)) (folder_boundary c.args.name.now c.utf8.name)

pub loop-i-init : goal.loop-i-init
loop-i-init c = begins is_slash c.as_bytes-bytes.result.now

pub loop-i-preserved : goal.loop-i-preserved
loop-i-preserved c =
    elim c.if-byte-eq47.branch [
      | then-byte-eq47 w ↦
          let e : is_slash (get_or c.as_bytes-bytes.result.now c.loop-i.i 0) ≡ true = search rules in
          turn_hit is_slash c.as_bytes-bytes.result.now c.loop-i.i c.loop-i.len c.if-byte-eq47.len c.loop-i-test.true e w.len-is ∙ c.loop-i.invariant
      | else-byte-eq47 w ↦
          let e : is_slash (get_or c.as_bytes-bytes.result.now c.loop-i.i 0) ≡ false = search rules in
          turn_miss is_slash c.as_bytes-bytes.result.now c.loop-i.i c.loop-i.len c.if-byte-eq47.len c.loop-i-test.true e w.len-is ∙ c.loop-i.invariant
    ]
