-- The whole text: a volume's, as its writers cut it, and the listing by what the judgement says.
use Rattle.std.specs.Prelude.{ℕ, ◌+◌, ◌≡◌, List, [], ◌∷◌, ◌++◌, length}
use Rattle.std.proofs.Math.Path.{ap}
use Rattle.std.proofs.Common.{length-append, arith}
use Rattle.rules.specs.Lists.{only}
use Rattle.rules.specs.Index.{Entry, volume_name}
use Rattle.rules.specs.Regions.{held_blocks}
use Rattle.rules.specs.Paths.{is_live}
use Rattle.rules.specs.Text.{text, joined, decimal}
use Rattle.rules.specs.Refusals.{refused, accepted, entries, judge_read}
use Rattle.rules.specs.Listing.{count_line, refused_line, volume_text, listing_of}
use Rattle.geometry.specs.View.{geometry_view}
use Rattle.geometry.specs.declared.Geometry.{Geometry as Held}
use Rattle.judging.specs.View.{volume_of}
use Rattle.listing.specs.Lines.{live_text}

-- `live N held M`
abbrev pub count_text : ℕ → ℕ → List ℕ
count_text live held = joined (text "live " ∷ decimal live ∷ text " held " ∷ decimal held ∷ text "\n" ∷ [])

pub count-is : (es : List Entry) (live held : ℕ) → live ≡ length (only is_live es) → held ≡ held_blocks es → count_text live held ≡ count_line es
unfolding count_line
count-is es live held l h = rw (l, h)

pub count-length : (live held : ℕ) → length (count_text live held) ≡ 12 + (length (decimal live) + length (decimal held))
count-length live held = simp length-append (omega arith)

abbrev pub name_text : List ℕ → List ℕ
name_text s = volume_name s ++ text "\n"

abbrev pub entries_text : List Entry → List ℕ
entries_text es = live_text es ++ count_line es

-- the text of an image that opens
abbrev pub opened_text : List ℕ → Held → List ℕ
opened_text s g = name_text s ++ entries_text (entries (volume_of s (geometry_view g)))

-- ---- the listing
module _ (s : List ℕ) where
  pub listing-refused : (n : ℕ) → judge_read s ≡ refused n → listing_of s ≡ refused_line n
  unfolding listing_of volume_text
  listing-refused n e = ap (volume_text s) e

  pub listing-opened : (g : Held) → judge_read s ≡ accepted (volume_of s (geometry_view g)) → listing_of s ≡ opened_text s g
  unfolding listing_of volume_text live_text
  listing-opened g e = ap (volume_text s) e
