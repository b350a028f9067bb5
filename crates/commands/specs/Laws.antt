-- The image that a call leaves stands for the device that the model's call leaves; the proofs stand in proofs/.
use Rattle.std.specs.Prelude.{true, List, ◌≡◌, ℕ, Option, None, Some}
use Rattle.model.specs.RoundTrip.{AreBytes}
use Rattle.image.specs.Layout.{is_image}
use Rattle.image.specs.Parts.{device_in}
use Rattle.commands.specs.Calls.{zones_set, zones_image, windows_set, windows_image, lists_loaded, load_lists, lists_reset, reset_lists}

-- the bytes of a record that may be missing
abbrev pub StoredBytes : Option (List ℕ) → Type 0
StoredBytes None = Unit {0}
StoredBytes (Some b) = AreBytes b

-- `zones_mean`, `windows_mean`, `load_means`, `reset_means` in proofs/Means.antt
pub record ListCallsMean (s : List ℕ) : Type 0 where
  pub zones : (b : List ℕ) (room : ℕ) → AreBytes b → device_in (zones_image s b room) ≡ (zones_set s b room).state
  pub windows : (b : List ℕ) (room : ℕ) → AreBytes b → device_in (windows_image s b room) ≡ (windows_set s b room).state
  pub load : (stored : Option (List ℕ)) → StoredBytes stored → device_in (load_lists s stored).image ≡ (lists_loaded s stored).state
  pub reset : device_in (reset_lists s).image ≡ (lists_reset s).state

-- of any image
abbrev pub CallsMean : Type 0
CallsMean = (s : List ℕ) → is_image s ≡ true → ListCallsMean s
