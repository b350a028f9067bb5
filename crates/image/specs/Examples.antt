-- Images at their edges: zeroed bytes, one byte too few, codes out of range.
use Rattle.std.specs.Prelude.{true, false, [], ◌∷◌, ◌++◌, ◌≡◌, refl, replicate}
use Rattle.model.specs.declared.TimeGranularity.TheVariants.{NoTime}
use Rattle.model.specs.declared.TimeSource.TheVariants as S
use Rattle.model.specs.Numbers.{granularity_of, source_of}
use Rattle.model.specs.Bytes.{bytes, number}
use Rattle.word.specs.Place.{word_at}
use Rattle.image.specs.Layout.{magic, is_image}
use Rattle.image.specs.Parts.{clock_in, has_lists}

-- memory that was never made an image
zeroed : is_image (replicate 1136 0) ≡ false
unfolding is_image word_at number
zeroed = refl

no_bytes : is_image [] ≡ false
unfolding is_image word_at number
no_bytes = refl

-- the magic in 1,135 bytes, in 1,136 and in more
one_short : is_image (bytes 4 magic ++ replicate 1131 0) ≡ false
unfolding is_image word_at number bytes
one_short = refl

just_long : is_image (bytes 4 magic ++ replicate 1132 0) ≡ true
unfolding is_image word_at number bytes
just_long = refl

longer : is_image (bytes 4 magic ++ replicate 1133 255) ≡ true
unfolding is_image word_at number bytes
longer = refl

-- any mark but 0 says that there is a list store
mark_of_255 : has_lists (0 ∷ 0 ∷ 0 ∷ 0 ∷ 255 ∷ []) ≡ true
mark_of_255 = refl

-- granularity 5 stands for NoTime, and time source 17 for None
granularity_5 : (clock_in (replicate 8 0 ++ (5 ∷ 17 ∷ []))).granularity ≡ NoTime
unfolding granularity_of
granularity_5 = refl

source_17 : (clock_in (replicate 8 0 ++ (5 ∷ 17 ∷ []))).source ≡ S.None
unfolding source_of
source_17 = refl
