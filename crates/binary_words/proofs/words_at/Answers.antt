use mathlib.Core.Path.{◌≡◌, refl, ap, ◌∙◌}
use Prim.Native.Nat.{ℕ}
use native.Mathlib.Omega.{arith}
use lib.ListN.{length}
use Rattle.gather.specs.Kinds.{byte_of}
use Rattle.binary_words.specs.RecordAt.{body_length, words_at}
use Rattle.binary_words.proofs.LengthLaws.{length_0, length_1, length_2, length_4}
use Rattle.binary_words.proofs.words_at.Goals as goal

pub returns-in-Block : goal.returns-in-Block
returns-in-Block c =
    let a = c.args in
    let e : byte_of a.kind ≡ 0 = ap byte_of c.in-Block.is in
    let b : c.body_length-n.result ≡ body_length 0 a.s.now a.p = c.body_length-n.ensures ∙ ap (λ (j : ℕ). body_length j a.s.now a.p) e in
    let l : length (words_at (byte_of a.kind) a.s.now a.p) ≡ length (words_at 0 a.s.now a.p) = ap (λ (j : ℕ). length (words_at j a.s.now a.p)) e in
    omega (arith, length_0 a.s.now a.p)

pub returns-in-Label : goal.returns-in-Label
returns-in-Label c =
    let a = c.args in
    let e : byte_of a.kind ≡ 1 = ap byte_of c.in-Label.is in
    let b : c.body_length-n.result ≡ body_length 1 a.s.now a.p = c.body_length-n.ensures ∙ ap (λ (j : ℕ). body_length j a.s.now a.p) e in
    let l : length (words_at (byte_of a.kind) a.s.now a.p) ≡ length (words_at 1 a.s.now a.p) = ap (λ (j : ℕ). length (words_at j a.s.now a.p)) e in
    omega (arith, length_1 a.s.now a.p)

pub returns-in-LineBlock : goal.returns-in-LineBlock
returns-in-LineBlock c =
    let a = c.args in
    let e : byte_of a.kind ≡ 2 = ap byte_of c.in-LineBlock.is in
    let b : c.body_length-n.result ≡ body_length 2 a.s.now a.p = c.body_length-n.ensures ∙ ap (λ (j : ℕ). body_length j a.s.now a.p) e in
    let l : length (words_at (byte_of a.kind) a.s.now a.p) ≡ length (words_at 2 a.s.now a.p) = ap (λ (j : ℕ). length (words_at j a.s.now a.p)) e in
    omega (arith, length_2 a.s.now a.p)

pub returns-in-Relocation : goal.returns-in-Relocation
returns-in-Relocation c =
    let a = c.args in
    let e : byte_of a.kind ≡ 4 = ap byte_of c.in-Relocation.is in
    let b : c.body_length-n.result ≡ body_length 4 a.s.now a.p = c.body_length-n.ensures ∙ ap (λ (j : ℕ). body_length j a.s.now a.p) e in
    let l : length (words_at (byte_of a.kind) a.s.now a.p) ≡ length (words_at 4 a.s.now a.p) = ap (λ (j : ℕ). length (words_at j a.s.now a.p)) e in
    omega (arith, length_4 a.s.now a.p)

pub returns-in-Source : goal.returns-in-Source
unfolding words_at
returns-in-Source c = rw c.in-Source.is refl
