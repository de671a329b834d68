mod Bodies
mod Cuts
mod Items
mod Keeping
mod Reaching
mod Counting
mod Words
