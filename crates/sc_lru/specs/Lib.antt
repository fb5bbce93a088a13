pub mod Order
pub mod LruCache
pub mod Lends
pub mod Linked
pub mod CacheLends
pub mod NodeLends
pub mod DryRun
pub mod IterMut
