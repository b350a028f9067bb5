-- Numbers, parts and copies at their edges: none, all that fit, and one byte or one number too many.
use Rattle.std.specs.Prelude.{[], ◌∷◌, ◌≡◌, refl}
use Rattle.model.specs.Bytes.{number, bytes, all_bytes}
use Rattle.word.specs.Place.{word_at, placed, copied, with_numbers}

-- a number at the last place where it stands, and one place further
last_number : word_at 2 (0 ∷ 1 ∷ 2 ∷ []) 1 ≡ 513
unfolding word_at number
last_number = refl

cut_number : word_at 2 (0 ∷ 1 ∷ 2 ∷ []) 2 ≡ 0
unfolding word_at
cut_number = refl

-- a part placed at the end, one byte past it, and none
placed_at_end : placed (1 ∷ 2 ∷ 3 ∷ []) 1 (8 ∷ 9 ∷ []) ≡ 1 ∷ 8 ∷ 9 ∷ []
unfolding placed
placed_at_end = refl

placed_past_end : placed (1 ∷ 2 ∷ 3 ∷ []) 2 (8 ∷ 9 ∷ []) ≡ 1 ∷ 2 ∷ 3 ∷ []
unfolding placed
placed_past_end = refl

placed_none : placed (1 ∷ 2 ∷ 3 ∷ []) 3 [] ≡ 1 ∷ 2 ∷ 3 ∷ []
unfolding placed
placed_none = refl

-- a part copied to the end, one byte past it, out of a slice that ends before it, and none
copied_to_end : copied (1 ∷ 2 ∷ 3 ∷ []) 1 (7 ∷ 8 ∷ 9 ∷ []) 1 2 ≡ 1 ∷ 8 ∷ 9 ∷ []
unfolding copied
copied_to_end = refl

copied_past_end : copied (1 ∷ 2 ∷ 3 ∷ []) 2 (7 ∷ 8 ∷ 9 ∷ []) 1 2 ≡ 1 ∷ 2 ∷ 3 ∷ []
unfolding copied
copied_past_end = refl

copied_too_few : copied (1 ∷ 2 ∷ 3 ∷ []) 1 (7 ∷ 8 ∷ 9 ∷ []) 2 2 ≡ 1 ∷ 2 ∷ 3 ∷ []
unfolding copied
copied_too_few = refl

copied_none : copied (1 ∷ 2 ∷ 3 ∷ []) 3 [] 0 0 ≡ 1 ∷ 2 ∷ 3 ∷ []
unfolding copied
copied_none = refl

-- one number of two, both where there is no room, more than there are, and none
one_number : with_numbers (9 ∷ 9 ∷ 9 ∷ 9 ∷ 9 ∷ 9 ∷ 9 ∷ 9 ∷ 9 ∷ []) (258 ∷ 5 ∷ []) 1 ≡ 2 ∷ 1 ∷ 0 ∷ 0 ∷ 0 ∷ 0 ∷ 0 ∷ 0 ∷ 9 ∷ []
unfolding with_numbers all_bytes bytes
one_number = refl

no_room : with_numbers (9 ∷ 9 ∷ 9 ∷ 9 ∷ 9 ∷ 9 ∷ 9 ∷ []) (258 ∷ []) 1 ≡ 9 ∷ 9 ∷ 9 ∷ 9 ∷ 9 ∷ 9 ∷ 9 ∷ []
unfolding with_numbers
no_room = refl

too_few : with_numbers (9 ∷ 9 ∷ 9 ∷ 9 ∷ 9 ∷ 9 ∷ 9 ∷ 9 ∷ []) [] 1 ≡ 9 ∷ 9 ∷ 9 ∷ 9 ∷ 9 ∷ 9 ∷ 9 ∷ 9 ∷ []
unfolding with_numbers
too_few = refl

no_number : with_numbers (9 ∷ []) (258 ∷ []) 0 ≡ 9 ∷ []
unfolding with_numbers all_bytes
no_number = refl

-- the bytes of one number placed at the front, those of one with no room for it, and of none
one_number_placed : placed (9 ∷ 9 ∷ 9 ∷ 9 ∷ 9 ∷ 9 ∷ 9 ∷ 9 ∷ 9 ∷ []) 0 (all_bytes (λ m. bytes 8 m) (258 ∷ [])) ≡ 2 ∷ 1 ∷ 0 ∷ 0 ∷ 0 ∷ 0 ∷ 0 ∷ 0 ∷ 9 ∷ []
unfolding placed all_bytes bytes
one_number_placed = refl

no_room_placed : placed (9 ∷ 9 ∷ 9 ∷ 9 ∷ 9 ∷ 9 ∷ 9 ∷ []) 0 (all_bytes (λ m. bytes 8 m) (258 ∷ [])) ≡ 9 ∷ 9 ∷ 9 ∷ 9 ∷ 9 ∷ 9 ∷ 9 ∷ []
unfolding placed all_bytes bytes
no_room_placed = refl

no_number_placed : placed (9 ∷ []) 0 (all_bytes (λ m. bytes 8 m) []) ≡ 9 ∷ []
unfolding placed all_bytes
no_number_placed = refl
