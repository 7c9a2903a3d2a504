-- Where a source stands after its bytes were read in parts.
use Rattle.std.proofs.Common.{◌≡◌, ℕ, ◌+◌, ◌*◌, ◌≤◌, List, [], ◌++◌, length, take, Option, Some, None, Ok, sym, ap, ◌∙◌, arith, length-append, length-take}
use Rattle.std.specs.Io.KnownBytes.{Consumes}
use Rattle.std.proofs.KnownBytes.{Consumes-nil, Consumes-trans}
use Rattle.morris_board.specs.Boards.{Shape}
use Rattle.morris_index.specs.Pairs.{Counts}
use Rattle.morris_pairs.specs.declared.layout.Layout.{Layout}
use Rattle.morris_pairs.specs.Entries.{entry_count}
use Rattle.morris_pairs.specs.FileReading.{header_at, check_header, header_in, body_length, file_length, StandsWithin, StandsInFile}
use Rattle.morris_pairs.proofs.FileLaws.{header_in-parts}
use Rattle.morris_pairs.proofs.ReadingLaws.{header_in-is}

-- nothing was read
pub stands-here : (n : ℕ) (a : Option (List ℕ)) → StandsWithin n a a
stands-here n a = ([], omega arith, Consumes-nil a)

-- the front of a buffer was read
pub stands-take : (n count : ℕ) (buffer : List ℕ) (a b : Option (List ℕ)) → count ≤ n → Consumes a b (take count buffer) → StandsWithin n a b
stands-take n count buffer a b few read = (take count buffer, omega (arith, length-take count buffer), read)

-- at most as many bytes were read as there may be
pub stands-fewer : (n m : ℕ) (a b : Option (List ℕ)) → n ≤ m → StandsWithin n a b → StandsWithin m a b
stands-fewer n m a b few here = (here.0, omega (arith, here.1, few), here.2)

-- one part after another
pub stands-after : (n m : ℕ) (front : List ℕ) (a b c : Option (List ℕ)) → Consumes a b front → length front + n ≤ m → StandsWithin n b c → StandsWithin m a c
stands-after n m front a b c read few there =
    (front ++ there.0, omega (arith, length-append front there.0, there.1), Consumes-trans a b c front there.0 read there.2)

module _ (board : Shape) (past : ℕ) where
  -- at most so many bytes were read as are in a header
  pub stands-short : (n : ℕ) (a b : Option (List ℕ)) → n ≤ 16 → StandsWithin n a b → StandsInFile board past a b
  stands-short n None b few here = tt
  stands-short n (Some bytes) b few here = (here.0, omega (arith, here.1), here.2)

  -- a header was read, and then at most as many bytes as stand after it
  pub stands-second_half : (header : List ℕ) → length header ≡ 16 → (a b c : Option (List ℕ)) → Consumes a b header
      → StandsWithin (body_length board (header_in board header)) b c → StandsInFile board past a c
  stands-second_half header long None b c read there = tt
  stands-second_half header long (Some bytes) None c read there = absurd read
  stands-second_half header long (Some bytes) (Some left) c read there =
      let same : header_in board bytes ≡ header_in board header =
      ap (header_in board) read ∙ header_in-parts board header left long ∙ sym (header_in-is board header long) in
      stands-after (body_length board (header_in board header)) (file_length board bytes + past) header (Some bytes) (Some left) c read
      (omega (arith, ap (body_length board) same)) there

-- and then some bytes more
pub stands-past : (board : Shape) (n past more : ℕ) (a b c : Option (List ℕ)) → past + n ≤ more → StandsInFile board past a b → StandsWithin n b c
    → StandsInFile board more a c
stands-past board n past more None b c few here there = tt
stands-past board n past more (Some bytes) b c few here there =
    (here.0 ++ there.0, omega (arith, length-append here.0 there.0, here.1, there.1), Consumes-trans (Some bytes) b c here.0 there.0 here.2 there.2)

-- what stands after the header of a pair
pub body_length-is : (board : Shape) (n : ℕ) → board.points ≡ n → (header : List ℕ) → length header ≡ 16 → (kind : Layout × Counts) (count : ℕ)
    → check_header board (header_at header) ≡ Ok kind → count ≡ entry_count board n kind.0 kind.1 → body_length board (header_in board header) ≡ 2 * count + 32
body_length-is board n points header long kind count named sized =
    ap (body_length board) (header_in-is board header long ∙ named)
    ∙ ap (λ k. 2 * k + 32) (ap (λ m. entry_count board m kind.0 kind.1) points ∙ sym sized)
