-- A binary tree in a list: node 1 is the root, the children of node q are 2 * q and 2 * q + 1, and with n leaves
-- these are the nodes from n on.
use Rattle.std.specs.Prelude.{◌≡◌, ℕ, ◌+◌, ◌*◌, ◌^◌, ◌<◌, ◌≤◌, max, List, length, slice_index}

-- each node above the leaves is the greater of its children
pub record Greatest (leaves : ℕ) (nodes : List ℕ) : Type 0 where
  pub size : length nodes ≡ 2 * leaves
  pub greater : (q : ℕ) → 1 ≤ q → q < leaves → slice_index nodes q ≡ max (slice_index nodes (2 * q)) (slice_index nodes (2 * q + 1))

-- the first `count` leaves are in use
pub record Row (count levels leaves : ℕ) (nodes : List ℕ) : Type 0 where
  pub power : leaves ≡ 2 ^ levels
  pub small : leaves ≤ 131072
  pub enough : count ≤ leaves
  pub tree : Greatest leaves nodes
