-- What a plan says: the refusal of the create, or what it leaves of the tidied image, that the image opens, and that the site lies in one of its length.
use Rattle.std.specs.Prelude.{ℕ, ◌+◌, ◌-◌, ◌*◌, ◌≤◌, ◌≡◌, true, false, List, length, ℤ, Result, Ok, Err}
use Rattle.std.proofs.Common.{sym, ap, ◌∙◌, arith, mul-le-mul_right, le-mul_of_pos_right}
use Rattle.std.proofs.Math.Path.{ap₂}
use Rattle.std.proofs.Math.Option.{none, some}
use Rattle.rules.specs.Lists.{is_some}
use Rattle.rules.specs.Lists.Laws.{is-some, is_none}
use Rattle.rules.specs.Editions.{Edition}
use Rattle.rules.specs.SuperBlock.{Geometry, block_length, ceiling_block, writable}
use Rattle.rules.specs.SuperBlock.Laws.{reserved-pos, areas-fit, ceiling-fits}
use Rattle.rules.specs.Names.{new_path_good, leading}
use Rattle.rules.specs.Names.Laws.{new-path}
use Rattle.rules.specs.Index.{continuing}
use Rattle.rules.specs.Index.Laws.{continuing-new}
use Rattle.rules.specs.Regions.{blocks_needed}
use Rattle.rules.specs.Regions.Laws.{needed-covers}
use Rattle.rules.specs.Paths.{lookup}
use Rattle.rules.specs.Refusals.{refused, accepted, Volume, entries, judge}
use Rattle.rules.specs.Refusals.Laws.{Opens, judge-opens}
use Rattle.rules.specs.Writing.{Site as Placing, New, kind_of, bytes_of, nearest_live, Place, place_run, place_file, created, create_of, new_slots, new_blocks, site_of}
use Rattle.rules.specs.Writing.Laws.{refused_write, wrote, tidy_image, create-refused, create-later, create-name, create-live, create-orphan, create-slots, create-blocks, create-done}
use Rattle.laws.proofs.Entries.Creating.{block-pos, place-fits}
use Rattle.laws.proofs.Images.Sizes.{block_same}
use Rattle.laws.proofs.Images.Placing.{new_geometry, Placed, run-place, RunFits, run_inside, Grown, place-grown, Sizes, new-sizes}
use Rattle.editions.specs.View.{edition_view}
use Rattle.geometry.specs.View.{geometry_view}
use Rattle.geometry.specs.declared.Geometry.{Geometry as Held}
use Rattle.judging.specs.View.{Opened, volume_of}
use Rattle.placing.specs.Site.{site_view, NewIn}
use Rattle.placing.specs.declared.Site.{Site}
use Rattle.planning.specs.Places.{site_from, place-past}
use Rattle.refusals.specs.declared.Refusal.{Refusal}
use Rattle.refusals.specs.declared.Refusal.TheVariants.{Later, Name, Live, Orphan, NoSlots, NoBlocks}
use Rattle.refusals.specs.View.{number_of}

unfoldable pub Planned : List ℕ → New → List ℕ → ℤ → Result Site Refusal → Type 0
Planned s new path stamp (Err e) = create_of s new path stamp ≡ refused_write s (number_of e)
Planned s new path stamp (Ok p) =
    (create_of s new path stamp ≡ wrote (created (tidy_image s (volume_of s (geometry_view p.old))) (site_view p) new path stamp))
    × Opened s p.old
    × NewIn (length s) new path (site_view p)

-- ---- by the tests, in their order
pub planned-refused : (s : List ℕ) (new : New) (path : List ℕ) (stamp : ℤ) (e : Refusal) → judge s ≡ refused (number_of e) → Planned s new path stamp (Err e)
unfolding Planned
planned-refused s new path stamp e j = create-refused s (number_of e) j new path stamp

-- the tests 9, 10, 12 and 13 passed
pub record Admitted (s : List ℕ) (g : Held) (path : List ℕ) : Type 0 where
  pub current : writable (geometry_view g) ≡ true
  pub named : new_path_good path ≡ true
  pub absent : lookup path (entries (volume_of s (geometry_view g))) ≡ none
  pub nearest : nearest_live (entries (volume_of s (geometry_view g))) (leading path) ≡ true

-- a file's blocks hold its bytes, by the geometry before and by the one written
blocks-hold : (g w : Geometry) → block_length w ≡ block_length g → (bytes : ℕ) → bytes ≤ blocks_needed (block_length g) bytes * block_length w
blocks-hold g w same bytes = rw same (needed-covers (block_length g) bytes (block-pos g))

module _ (s : List ℕ) (g : Held) (opened : Opened s g) where
  abbrev v : Volume
  v = volume_of s (geometry_view g)

  o : Opens s v
  o = judge-opens s v opened

  pub admitted : (path : List ℕ) → writable (geometry_view g) ≡ true → new_path_good path ≡ true → is_some (lookup path (entries v)) ≡ false
      → nearest_live (entries v) (leading path) ≡ true → Admitted s g path
  admitted path current named absent d =
      record { current = current; named = named; absent = is_none (lookup path (entries v)) absent; nearest = d }

  module _ (new : New) (path : List ℕ) (stamp : ℤ) where
    pub planned-later : writable (geometry_view g) ≡ false → Planned s new path stamp (Err Later)
    unfolding Planned
    planned-later l = create-later s v opened l new path stamp

    module _ (current : writable (geometry_view g) ≡ true) where
      pub planned-name : new_path_good path ≡ false → Planned s new path stamp (Err Name)
      unfolding Planned
      planned-name p = create-name s v opened current new path stamp p

      module _ (named : new_path_good path ≡ true) where
        pub planned-live : is_some (lookup path (entries v)) ≡ true → Planned s new path stamp (Err Live)
        unfolding Planned
        planned-live e = let f = is-some (lookup path (entries v)) e in
            create-live s v opened current new path stamp named f.0 f.1

        module _ (absent : is_some (lookup path (entries v)) ≡ false) where
          pub planned-orphan : nearest_live (entries v) (leading path) ≡ false → Planned s new path stamp (Err Orphan)
          unfolding Planned
          planned-orphan d = create-orphan s v opened current new path stamp named (is_none (lookup path (entries v)) absent) d

  -- those passed, the places
  module _ (new : New) (path : List ℕ) (passed : Admitted s g path) where
    pub few-slots : new_slots (edition_view g.edition) new path ≤ 6
    few-slots = omega (arith, continuing-new (edition_view g.edition) (kind_of new) (length path) (new-path path passed.named).1)

    pub planned-slots : (stamp : ℤ) → place_run (length s) v path (new_slots (edition_view g.edition) new path) ≡ none → Planned s new path stamp (Err NoSlots)
    unfolding Planned
    planned-slots stamp r = create-slots s v opened passed.current new path stamp passed.named passed.absent passed.nearest r

    -- a place for the run
    module _ (q : Place) (r : place_run (length s) v path (new_slots (edition_view g.edition) new path) ≡ some q) where
      run-placed : Placed (length s) v path (new_slots (edition_view g.edition) new path) q
      run-placed = run-place (length s) v path (new_slots (edition_view g.edition) new path) q r

      pub run-grown : Grown (length s) (geometry_view g) q.geometry
      run-grown = place-grown (length s) v path (new_slots (edition_view g.edition) new path) q o.geometry-good run-placed

      pub planned-blocks : (stamp : ℤ) → place_file (length s) q.geometry (entries v) (new_blocks (geometry_view g) new) ≡ none
          → Planned s new path stamp (Err NoBlocks)
      unfolding Planned
      planned-blocks stamp b = create-blocks s v opened passed.current new path stamp passed.named passed.absent passed.nearest q r b

      -- and one for the blocks
      module _ (start : ℕ) (b : place_file (length s) q.geometry (entries v) (new_blocks (geometry_view g) new) ≡ some start) where
        below : start + new_blocks (geometry_view g) new ≤ ceiling_block (length s) q.geometry
        below = place-fits (length s) q.geometry (entries v) (new_blocks (geometry_view g) new) start b

        pub end_fits : start + new_blocks (geometry_view g) new ≤ 16_777_216
        end_fits =
            let h : Geometry = q.geometry in
            omega (
              arith,
              below,
              le-mul_of_pos_right (ceiling_block (length s) h) (block-pos h),
              ceiling-fits (length s) h run-grown.good.index-fits,
              o.length_high,
            )

        site-in : (stamp : ℤ) → NewIn (length s) new path (site_of v new path stamp q start)
        site-in stamp =
            let end : ℕ = start + new_blocks (geometry_view g) new in
            let w : Geometry = new_geometry (geometry_view g) q.geometry end stamp in
            let sizes : Sizes (length s) (geometry_view g) q.geometry end w = new-sizes (length s) (geometry_view g) q.geometry end stamp run-grown below in
            let inside : RunFits (new_slots (edition_view g.edition) new path) q = run_inside s v o path (new_slots (edition_view g.edition) new path) q run-placed in
            let span : end - start ≡ new_blocks (geometry_view g) new = omega arith in
            record {
              long = o.length-low;
              short = o.length_high;
              index_low = sizes.good.index-low;
              index_fits = sizes.good.index-fits;
              slots = ap (λ (ed : Edition). 1 + continuing ed (kind_of new) (length path)) (sym sizes.same.edition-same);
              few = few-slots;
              past = place-past (length s) q.geometry (entries v) (reserved-pos (length s) q.geometry run-grown.good) (new_blocks (geometry_view g) new) start b;
              run = omega (arith, inside.high, sizes.index_same);
              blocks = record {
                field = sizes.good.field-high;
                ordered = omega arith;
                region = omega (arith, mul-le-mul_right (block_length w) sizes.covers, areas-fit (length s) w sizes.good);
                holds = rw span (blocks-hold (geometry_view g) w (block_same (geometry_view g) w sizes.same) (length (bytes_of new)));
              };
            }

        placed : (stamp : ℤ) (p : Placing) → p ≡ site_of v new path stamp q start
            → (create_of s new path stamp ≡ wrote (created (tidy_image s (volume_of s p.old)) p new path stamp))
            × (judge s ≡ accepted (volume_of s p.old))
            × NewIn (length s) new path p
        placed stamp p e =
            rw e
            (create-done s v opened passed.current new path stamp passed.named passed.absent passed.nearest q r start b, opened, site-in stamp)

        pub planned-at : (stamp : ℤ) (slots blocks : ℕ) → slots ≡ new_slots (edition_view g.edition) new path → blocks ≡ new_blocks (geometry_view g) new
            → (p : Site) → site_view p ≡ site_from (geometry_view g) q.geometry q.slot slots start blocks stamp → Planned s new path stamp (Ok p)
        unfolding Planned
        planned-at stamp slots blocks k n p e =
            placed stamp (site_view p) (e ∙ ap₂ (λ (x y : ℕ). site_from (geometry_view g) q.geometry q.slot x start y stamp) k n)
