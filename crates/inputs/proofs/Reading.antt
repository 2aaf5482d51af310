-- A read behind what was read before, where the reader's bytes are known.
use Rattle.std.proofs.Common.{◌≡◌, ℕ, ◌+◌, ◌-◌, ◌≤◌, List, ◌++◌, length, take, drop, ap, sym, ◌∙◌, subst, le_refl, drop_at, length-take-le, add-zero}
use Rattle.std.proofs.lemmas.List.{take-append-le}
use Rattle.std.proofs.lemmas.Slice.{take-put_mid_below}
use Rattle.std.specs.declared.option.Option.{Option}
use Rattle.std.specs.Io.KnownBytes.{Consumes, Keeps, ReadConsumes}
use Rattle.std.specs.Prelude.{Result, Ok, Err, IfOk, unwrap_or}
use Rattle.std.specs.Result.{result_ok}
use Rattle.std.specs.Counts.{IsPrefixLen}
use Rattle.std.proofs.KnownBytes.{Consumes-trans, Consumes-kept}
use borrow.Rule.Slice.PartMut.{put_mid, post_of}
use Rattle.std.proofs.Math.Seq.{take-add}

module _ (at n : ℕ) (s part : List ℕ) (within : at ≤ length s) (fits : n ≤ length part) where
  abbrev new : List ℕ
  new = put_mid at (length s - at) s part

  back : take n (drop at new) ≡ take n part
  back =
      let after = post_of at (length s - at) s in
      ap (take n) (drop_at (take at s) (part ++ after) at (length-take-le at s within)) ∙ take-append-le n part after fits

  whole : take (at + n) new ≡ take at s ++ take n part
  whole = take-add at n new ∙ ap (λ l. l ++ take n (drop at new)) (take-put_mid_below _ _ _ _ _ (le_refl _) within) ∙ ap (λ l. take at s ++ l) back

  pub more_read : (a b c : Option (List ℕ)) → Consumes a b (take at s) → Consumes b c (take n part) → Consumes a c (take (at + n) new)
  more_read a b c first second = subst (Consumes a c) (sym whole) (Consumes-trans a b c _ _ first second)

-- a read that failed
module _ (at : ℕ) (s part : List ℕ) (within : at ≤ length s) where
  abbrev left : List ℕ
  left = put_mid at (length s - at) s part

  same : take (at + 0) left ≡ take at s
  same = ap (λ k. take k left) (add-zero at) ∙ take-put_mid_below _ _ _ _ _ (le_refl _) within

  pub failed_read : (a b c : Option (List ℕ)) → Consumes a b (take at s) → Keeps b c → Consumes a c (take (at + 0) left)
  failed_read a b c first keeps = subst (Consumes a c) (sym same) (Consumes-kept a b c _ first keeps)

-- a read, whatever came of it
module _ {E : Type 0} (at : ℕ) (s part : List ℕ) (within : at ≤ length s) (a b c : Option (List ℕ)) where
  pub read_once : (r : Result ℕ E) (o : Option ℕ) → o ≡ result_ok r → IfOk r (λ n. IsPrefixLen n part) → ReadConsumes b c r part → Consumes a b (take at s)
      → Consumes a c (take (at + unwrap_or o 0) (put_mid at (length s - at) s part))
  read_once (Ok n) o e bound bytes first = rw e (more_read at n s part within bound.0 a b c first bytes.0)
  read_once (Err x) o e bound bytes first = rw e (failed_read at s part within a b c first bytes)
