-- Parts of what is to be written.
use Rattle.std.proofs.Common.{◌≡◌, ℕ, List, [], ◌++◌, take, drop, Bool, true, false, cond, Some, refl, sym, ap, ◌∙◌}
use Rattle.std.proofs.lemmas.List.{take-append-drop, append-nil}
use Rattle.site_edge.specs.Lists.{AddsPart}

-- a front of the bytes, or none of them
pub adds_front : (fits : Bool) (text bytes new : List ℕ) (n : ℕ) → new ≡ cond fits (text ++ take n bytes) text → AddsPart bytes (Some text) (Some new)
adds_front true text bytes new n e = (take n bytes, drop n bytes, sym (take-append-drop n bytes), ap Some e)
adds_front false text bytes new n e = ([], bytes, refl, ap Some (e ∙ sym (append-nil text)))
