-- Reading one word behind another, and one line behind another, as loops do.
use Rattle.std.proofs.Common.{◌≡◌, ℕ, suc, ◌-◌, ◌+◌, ◌≤◌, ◌<◌, List, [], ◌∷◌, codes, Bool, true, false, cond, Option, Some, None, refl, sym, ap, ◌∙◌, arith}
use Rattle.std.proofs.lemmas.Str.{IsUtf8-from_is_utf8, is_utf8-from_IsUtf8}
use Rattle.std.specs.Str.{IsUtf8, is_utf8}
use Rattle.log_text.specs.Fronts.{◌>>=◌, Fails, behind, text_at}
use Rattle.log_text.specs.SiteNames.{PlainNames}
use Rattle.log_text.specs.declared.entry_error.EntryError.{EntryError}
use Rattle.log_text.specs.declared.entry_error.EntryError.TheVariants as error
use Rattle.run_text.specs.declared.style.Style.{Style}
use Rattle.site_audit.specs.BlockReading.{line_added, line_begun, lines_into, block_read}
use Rattle.site_audit.specs.Blocks.{lines_of}
use Rattle.site_audit.specs.LineReading.{next_word, words_within, as_entry, styled_read, entry_line_read}
use Rattle.site_audit.specs.declared.block.Block.{Block}

left : (count i : ℕ) → i < count → count - i ≡ suc (count - (i + 1))
left count i lt = omega arith

abbrev word_by : ℕ → Option (List ℕ × List ℕ) → Option (List ℕ)
word_by most r = r >>= λ word. next_word (words_within most) word.1 (behind (codes " ") word.1)

word_one : (count i : ℕ) (bytes : List ℕ) → i < count → words_within (count - i) bytes ≡ word_by (count - (i + 1)) (text_at bytes)
word_one count i bytes lt = ap (λ n. words_within n bytes) (left count i lt)

pub word_goes_on : (count i : ℕ) (bytes after next : List ℕ) (word : List ℕ) (total : Option (List ℕ)) → i < count → text_at bytes ≡ Some (word, after) → behind (codes " ") after ≡ Some next → words_within (count - i) bytes ≡ total → words_within (count - (i + 1)) next ≡ total
word_goes_on count i bytes after next word total lt h blank so_far =
    sym (word_one count i bytes lt ∙ (ap (word_by (count - (i + 1))) h ∙ ap (next_word (words_within (count - (i + 1))) after) blank)) ∙ so_far

pub word_ends : (count i : ℕ) (bytes after : List ℕ) (word : List ℕ) (total : Option (List ℕ)) → i < count → text_at bytes ≡ Some (word, after) → behind (codes " ") after ≡ None → words_within (count - i) bytes ≡ total → total ≡ Some after
word_ends count i bytes after word total lt h blank so_far =
    sym so_far ∙ (word_one count i bytes lt ∙ (ap (word_by (count - (i + 1))) h ∙ ap (next_word (words_within (count - (i + 1))) after) blank))

pub word_fails : (e : EntryError) (count i : ℕ) (bytes : List ℕ) (total : Option (List ℕ)) → i < count → Fails e (text_at bytes) → words_within (count - i) bytes ≡ total → Fails e total
word_fails error.OutOfMemory count i bytes total lt h so_far = tt
word_fails error.BadLine count i bytes total lt h so_far = sym so_far ∙ (word_one count i bytes lt ∙ ap (word_by (count - (i + 1))) h)

pub no_word_left : (count i : ℕ) (bytes : List ℕ) (total : Option (List ℕ)) → count ≤ i → words_within (count - i) bytes ≡ total → total ≡ None
no_word_left count i bytes total le so_far = let none : count - i ≡ 0 = omega arith in sym so_far ∙ ap (λ n. words_within n bytes) none

-- Lines of a block.
module _ (style : Style) (names : PlainNames) where
  pub line_goes_on : (b c : Block) (rest line more : List ℕ) (total : Option Block) → lines_of rest ≡ line ∷ lines_of more → line_added style names b line ≡ Some c → lines_into style names (lines_of rest) b ≡ total → lines_into style names (lines_of more) c ≡ total
  line_goes_on b c rest line more total parts h so_far =
      sym (ap (λ ls. lines_into style names ls b) parts ∙ ap (λ r. r >>= lines_into style names (lines_of more)) h) ∙ so_far

  pub line_fails : (e : EntryError) (b : Block) (rest line more : List ℕ) (total : Option Block) → lines_of rest ≡ line ∷ lines_of more → Fails e (line_added style names b line) → lines_into style names (lines_of rest) b ≡ total → Fails e total
  line_fails error.OutOfMemory b rest line more total parts h so_far = tt
  line_fails error.BadLine b rest line more total parts h so_far =
      sym so_far ∙ (ap (λ ls. lines_into style names ls b) parts ∙ ap (λ r. r >>= lines_into style names (lines_of more)) h)

  pub lines_end : (b : Block) (rest : List ℕ) (total : Option Block) → rest ≡ [] → lines_into style names (lines_of rest) b ≡ total → total ≡ Some b
  lines_end b rest total none so_far = sym so_far ∙ ap (λ bs. lines_into style names (lines_of bs) b) none

  pub first_is : (bytes line more : List ℕ) (b : Block) → lines_of bytes ≡ line ∷ lines_of more → line_begun style names line ≡ Some b → block_read style names (lines_of bytes) ≡ lines_into style names (lines_of more) b
  first_is bytes line more b parts h = ap (block_read style names) parts ∙ ap (λ r. r >>= lines_into style names (lines_of more)) h

  pub first_fails : (e : EntryError) (bytes line more : List ℕ) → lines_of bytes ≡ line ∷ lines_of more → Fails e (line_begun style names line) → Fails e (block_read style names (lines_of bytes))
  first_fails error.OutOfMemory bytes line more parts h = tt
  first_fails error.BadLine bytes line more parts h = ap (block_read style names) parts ∙ ap (λ r. r >>= lines_into style names (lines_of more)) h

-- Lines of entries are texts.
pub entry_text : (style : Style) (names : PlainNames) (bytes : List ℕ) → IsUtf8 bytes → entry_line_read style names bytes ≡ (styled_read style names bytes >>= as_entry)
entry_text style names bytes text = ap (λ t. cond t (styled_read style names bytes >>= as_entry) None) (is_utf8-from_IsUtf8 bytes text)

pub entry_no_text : (style : Style) (names : PlainNames) (bytes : List ℕ) → (IsUtf8 bytes → ⊥) → entry_line_read style names bytes ≡ None
entry_no_text style names bytes none = by (is_utf8 bytes) refl
  where
    by : (t : Bool) → is_utf8 bytes ≡ t → cond t (styled_read style names bytes >>= as_entry) None ≡ None
    by true e = absurd (none (IsUtf8-from_is_utf8 bytes e))
    by false e = refl
