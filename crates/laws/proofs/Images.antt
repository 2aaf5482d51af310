-- How an image changes under writes, and what a call that was accepted says. A write is a span outside of which nothing changes
-- (`SameBut`): the sizes (`sizes-written`), the marker (`marker-written`), slots between the ends (`Inner`: a run over unused ones, in front
-- of the index, of another type, cleared, or left over and made unused), the blocks of a region (`RegionKept`). `Kept` says what a span keeps by where it lies.
pub mod Accepted
pub mod Kept
pub mod Areas
pub mod Region
pub mod Inner
pub mod Indexes
pub mod Clearing
pub mod Live
pub mod Sizes
pub mod Marker
pub mod Placing
pub mod Tidying
