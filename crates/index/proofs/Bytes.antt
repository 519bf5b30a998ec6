-- Two-byte numbers and their bytes: what is read back is what was written, and bytes are those of the numbers read.
-- Assumes nothing.
use mathlib.Core.Path.{◌≡◌, refl, ap₂}
use mathlib.Core.List.{List, [], ◌∷◌, ◌++◌}
use Prim.Native.Nat.{ℕ, zero, suc, ◌+◌, ◌*◌, ◌/◌, ◌%◌, ◌<◌}
use native.Mathlib.Omega.{arith}
use lib.ListN.{length, get_or, drop}
use lib.Seq.{drop-drop}
use Rattle.statements.specs.Plants.{word, words, Plant}
use Rattle.statements.specs.Books.{two, bytes_of}
use Rattle.statements.specs.Index.{index_bytes}
use Rattle.decoding.proofs.Sizes.{two_of}
use Rattle.format.proofs.Words.{word_number}
use Rattle.index.specs.Steps.{index_numbers}

-- the numbers of some bytes are read back from them
pub words_back : (ns : List ℕ) → words (length ns) (bytes_of ns) ≡ ns
unfolding words word bytes_of two
words_back [] = refl
words_back (n ∷ ns) =
    let same : n % 256 + 256 * (n / 256) ≡ n = omega arith in
    ap₂ (λ (v : ℕ) (vs : List ℕ). v ∷ vs) same (words_back ns)

-- bytes are those of the numbers read from them
pub bytes_back : (n : ℕ) (xs : List ℕ) → length xs ≡ 2 * n → ((k : ℕ) → get_or xs k 0 < 256) → bytes_of (words n xs) ≡ xs
unfolding words word bytes_of
bytes_back zero [] long bytes = refl
bytes_back zero (a ∷ xs) long bytes = absurd (omega arith)
bytes_back (suc n) [] long bytes = absurd (omega arith)
bytes_back (suc n) (a ∷ []) long bytes = absurd (omega arith)
bytes_back (suc n) (a ∷ (b ∷ xs)) long bytes =
    ap₂ (λ (vs ws : List ℕ). vs ++ ws) (two_of a b (bytes 0))
    (bytes_back n xs (omega arith) (λ k. bytes (suc (suc k))))

-- the first four numbers, and those after them
pub four_words : (n : ℕ) (s : List ℕ)
    → words (suc (suc (suc (suc n)))) s
    ≡ word 0 s ∷ (word 1 s ∷ (word 2 s ∷ (word 3 s ∷ words n (drop 8 s))))
unfolding words
four_words n s = rw (word_number s 1, word_number s 2, word_number s 3) (simp drop-drop)

-- the index's bytes are those of its numbers
pub index_bytes_lem : (p : Plant) → index_bytes p ≡ bytes_of (index_numbers p)
unfolding index_bytes index_numbers bytes_of
index_bytes_lem p = refl
