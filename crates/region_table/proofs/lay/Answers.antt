use Rattle.std.proofs.Common.{ℕ, ◌+◌, ◌-◌, ◌<◌, ◌≤◌, ◌≡◌, List, ◌++◌, length, get_or, take, drop, ap, ◌∙◌, arith, get_or-drop, length-drop}
use Rattle.std.proofs.Math.ListN.{set, get_or-map}
use Rattle.std.proofs.Math.Seq.{paste}
use Rattle.std.proofs.lemmas.List.{length-map, map-set, take_rest}
use Rattle.std.proofs.lemmas.List.Edits.{paste_more, paste_all}
use Rattle.rules.specs.Regions.{Extent}
use Rattle.ordering.specs.Tables.{key_extent}
use Rattle.region_table.specs.View.{extent_view, last_regions, laid}
use Rattle.region_table.specs.Answers.{length_last}
use Rattle.region_table.proofs.lay.Goals as goal

-- The last n keys, as the loop has them.
abbrev last : ℕ → List ℕ → List ℕ
last n ks = take (length ks - (length ks - n)) (drop (length ks - n) ks)

length_of_last : (n : ℕ) (ks : List ℕ) → n ≤ length ks → length (last n ks) ≡ n
length_of_last n ks k = rw take_rest (omega (arith, length-drop (length ks - n) ks))

last_at : (n i : ℕ) (ks : List ℕ) → get_or (last n ks) i 0 ≡ get_or ks (length ks - n + i) 0
last_at n i ks = rw take_rest (get_or-drop (length ks - n) ks i 0)

-- One more key's region.
laid_more : (n i : ℕ) (ks : List ℕ) (xs ys : List Extent) (x : Extent) → i < length (last n ks) → n ≤ length ks → n ≤ length xs → ys ≡ paste xs 0 (last_regions n ks) i
    → x ≡ key_extent (get_or (last n ks) i 0) → set ys i x ≡ paste xs 0 (last_regions n ks) (i + 1)
laid_more n i ks xs ys x h k l e f =
    let at : 0 + i ≡ i = omega arith in
    let here = ap key_extent (last_at n i ks) in
    let next = get_or-map key_extent (drop (length ks - n) ks) i 0 ∙ ap key_extent (get_or-drop (length ks - n) ks i 0) in
    let more = paste_more xs 0 (last_regions n ks) i (key_extent 0) (omega (arith, length_of_last n ks k)) (omega (arith, length_of_last n ks k, length_last n ks k)) in
    cc

-- All of them.
laid_all : (n i : ℕ) (ks : List ℕ) (xs ys : List Extent) → i ≡ n → n ≤ length ks → ys ≡ paste xs 0 (last_regions n ks) i → ys ≡ laid n ks xs
unfolding laid
laid_all n i ks xs ys h k e =
    let at : 0 + i ≡ n = omega arith in
    e ∙ paste_all xs 0 (last_regions n ks) i (omega (arith, length_last n ks k)) ∙ ap (λ (j : ℕ). last_regions n ks ++ drop j xs) at

pub loop-i-preserved : goal.loop-i-preserved
loop-i-preserved c =
    let l = c.loop-i in
    map-set extent_view l.table l.i c.region_of.result
    ∙ laid_more c.args.n l.i c.args.keys.now _ _ _ c.loop-i-test.true c.requires.1 (omega (arith, length-map c.args.table.now extent_view)) l.invariant c.region_of.ensures

pub returns : goal.returns
returns c =
    laid_all c.args.n c.loop-i.i _ _ _ (omega (arith, length_of_last c.args.n c.args.keys.now c.requires.1, c.loop-i.auto.i-end)) c.requires.1 c.loop-i.invariant
