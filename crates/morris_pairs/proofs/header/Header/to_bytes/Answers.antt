-- The bytes are written in four places of the sixteen.
use Rattle.std.proofs.Common.{◌≡◌, ℕ, List, [], ◌∷◌, ◌++◌, length, slice_set, refl, arith, ap}
use Rattle.std.specs.Int.{w64, to_be_bytes}
use borrow.Rule.Slice.PartMut.{put_mid}
use Rattle.morris_pairs.specs.Headers.{header_bytes}
use Rattle.morris_pairs.proofs.header.Header.to_bytes.Goals as goal

zeros : List ℕ
zeros = 0 ∷ 0 ∷ 0 ∷ 0 ∷ 0 ∷ 0 ∷ 0 ∷ 0 ∷ 0 ∷ 0 ∷ 0 ∷ 0 ∷ []

written : (magic : List ℕ) (version board greater lesser entries : ℕ) → length magic ≡ 4
    → put_mid 8 8 (slice_set (slice_set (slice_set (slice_set (magic ++ zeros) 4 version) 5 board) 6 greater) 7 lesser) (to_be_bytes w64 entries)
    ≡ magic ++ version ∷ board ∷ greater ∷ lesser ∷ to_be_bytes w64 entries
unfolding zeros
written (a ∷ b ∷ c ∷ d ∷ []) version board greater lesser entries four = refl
written _ version board greater lesser entries four = absurd (omega arith)

pub returns : goal.returns
unfolding header_bytes zeros
returns c =
    let h = c.args.self in
    let four : length h.magic ≡ 4 = omega (arith, c.copy_from_slice.ensures.len, ap length c.copy_from_slice.ensures.after) in
    rw (c.copy_from_slice.ensures.after, c.copy_from_slice-2.ensures.after, c.to_be_bytes.ensures) (written h.magic h.version h.board h.greater h.lesser h.entries four)
