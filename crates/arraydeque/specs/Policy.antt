-- What a push into a full deque does.

pub data Policy : Type 0 where
  -- the pushed element comes back, and the list stays
  saturating : Policy
  -- the item at the other end is given up
  wrapping : Policy
