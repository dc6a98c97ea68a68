pub mod NegatedAt
