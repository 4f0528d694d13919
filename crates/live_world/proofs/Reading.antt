-- What is read of an input are its lines.
use Rattle.std.proofs.Common.{◌≡◌, ◌==◌, ℕ, zero, suc, ◌≤◌, List, [], ◌∷◌, ◌++◌, length, map, take, Bool, false, if◌then◌else◌, refl, sym, ap, ◌∙◌, arith}
use Rattle.std.proofs.lemmas.List.{append_assoc, append-nil, take_all, length-take}
use Rattle.live_world.specs.Lines.{kept, cut, shortened, Read, read_byte, read_on, IsLine, AreLines, written}

pub reads_pieces : (r : Read) (some more : List ℕ) → read_on (read_on r some) more ≡ read_on r (some ++ more)
unfolding read_on
reads_pieces r [] more = refl
reads_pieces r (byte ∷ some) more = reads_pieces (read_byte r byte) some more

take_again : (n : ℕ) (xs ys : List ℕ) → take n (take n xs ++ ys) ≡ take n (xs ++ ys)
take_again zero xs ys = refl
take_again (suc n) [] ys = refl
take_again (suc n) (x ∷ xs) ys = ap (λ l. x ∷ l) (take_again n xs ys)

-- what was kept of a front keeps the same of more
kept_again : (xs ys : List ℕ) → kept (kept xs ++ ys) ≡ kept (xs ++ ys)
kept_again xs ys = take_again 65537 xs ys

length_kept : (xs : List ℕ) → length (kept xs) ≤ 65537
length_kept xs = let e = length-take 65537 xs in omega (arith, e)

abbrev pub read_of : List (List ℕ) → List ℕ → Read
read_of whole front = record { whole = whole; front = front }

-- a byte of a line
byte_read : (whole : List (List ℕ)) (front : List ℕ) (byte : ℕ) → (byte == 10) ≡ false → read_byte (read_of whole front) byte ≡ read_of whole (kept (front ++ byte ∷ []))
unfolding read_byte
byte_read whole front byte other =
    let ended : Read = read_of (whole ++ cut front ∷ []) [] in
    let longer : Read = read_of whole (kept (front ++ byte ∷ [])) in
    ap (λ (t : Bool). if t then ended else longer) other

-- a line, up to its newline
line_read : (whole : List (List ℕ)) (front bytes : List ℕ) → length front ≤ 65537 → IsLine bytes → read_on (read_of whole front) bytes ≡ read_of whole (kept (front ++ bytes))
unfolding read_on
line_read whole front [] fits h = ap (read_of whole) (sym (ap kept (append-nil front) ∙ take_all 65537 front fits))
line_read whole front (byte ∷ bytes) fits h =
    ap (λ (s : Read). read_on s bytes) (byte_read whole front byte h.0)
    ∙ (line_read whole (kept (front ++ byte ∷ [])) bytes (length_kept (front ++ byte ∷ [])) h.1
    ∙ ap (read_of whole) (kept_again (front ++ byte ∷ []) bytes ∙ ap kept (append_assoc front (byte ∷ []) bytes)))

-- the newline behind a line
newline_read : (whole : List (List ℕ)) (front more : List ℕ) → read_on (read_of whole front) (10 ∷ more) ≡ read_on (read_of (whole ++ cut front ∷ []) []) more
unfolding read_on read_byte
newline_read whole front more = refl

pub lines_read : (whole lines : List (List ℕ)) (rest : List ℕ) → AreLines lines → IsLine rest → read_on (read_of whole []) (written lines ++ rest) ≡ read_of (whole ++ map shortened lines) (kept rest)
lines_read whole [] rest h last = line_read whole [] rest (omega arith) last ∙ ap (λ (w : List (List ℕ)). read_of w (kept rest)) (sym (append-nil whole))
lines_read whole (line ∷ lines) rest h last =
    let more : List ℕ = written lines ++ rest in
    ap (λ (bytes : List ℕ). read_on (read_of whole []) bytes) (append_assoc line (10 ∷ written lines) rest)
    ∙ (sym (reads_pieces (read_of whole []) line (10 ∷ more))
    ∙ (ap (λ (s : Read). read_on s (10 ∷ more)) (line_read whole [] line (omega arith) h.0)
    ∙ (newline_read whole (kept line) more
    ∙ (lines_read (whole ++ shortened line ∷ []) lines rest h.1 last
    ∙ ap (λ (w : List (List ℕ)). read_of w (kept rest)) (append_assoc whole (shortened line ∷ []) (map shortened lines))))))
