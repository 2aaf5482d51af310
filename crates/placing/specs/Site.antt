-- A site in the rules' words, and that all of it lies in the image.
use Rattle.std.specs.Prelude.{ℕ, ◌+◌, ◌-◌, ◌*◌, ◌≤◌, ◌≡◌, List, length}
use Rattle.rules.specs.SuperBlock.{block_length}
use Rattle.rules.specs.Index.{continuing, slot_bytes}
use Rattle.rules.specs.Writing.{Site as Placing, New, new_file, new_directory, kind_of, bytes_of}
use Rattle.geometry.specs.View.{geometry_view}
use Rattle.placing.specs.declared.Made.{Made}
use Rattle.placing.specs.declared.Made.TheVariants.{File, Directory}
use Rattle.placing.specs.declared.Site.{Site}

-- ---- what is new
unfoldable pub new_of : Made → New
new_of (File bytes) = new_file bytes.now
new_of Directory = new_directory

-- ---- where it goes
abbrev pub site_view : Site → Placing
site_view p = record {
  old = geometry_view p.old;
  new = geometry_view p.new;
  slot = p.slot.0;
  slots = p.slots;
  start = p.start.0;
  end = p.end.0;
}

-- the region lies in an image of n bytes and holds so many
pub record BlocksIn (n : ℕ) (p : Placing) (bytes : ℕ) : Type 0 where
  pub field : p.new.block_field ≤ 5
  pub ordered : p.start ≤ p.end
  pub region : p.end * block_length p.new ≤ n
  pub holds : bytes ≤ (p.end - p.start) * block_length p.new

-- so does the run in the index, by the kind and the path; its end is one that is read back as it is stored
pub record SiteIn (n kind : ℕ) (path bytes : List ℕ) (p : Placing) : Type 0 where
  pub long : 512 ≤ n
  pub short : n ≤ 16_777_216
  pub index_low : 128 ≤ p.new.index_bytes
  pub index_fits : p.new.index_bytes ≤ n
  pub slots : p.slots ≡ 1 + continuing p.new.edition kind (length path)
  pub few : p.slots ≤ 6
  pub past : p.end ≡ 1 → ⊥
  pub run : slot_bytes * (p.slot + p.slots) ≤ p.new.index_bytes
  pub blocks : BlocksIn n p (length bytes)

abbrev pub NewIn : ℕ → New → List ℕ → Placing → Type 0
NewIn n new path p = SiteIn n (kind_of new) path (bytes_of new) p
